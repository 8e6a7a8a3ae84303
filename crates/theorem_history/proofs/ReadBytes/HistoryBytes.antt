-- The reads of the claim (rules 6.7 to 6.9): a reset makes true of every slave and master what the byte memory needs, posts and
-- clocks keep it, and so the clock that finishes a read leaves what the read's step gave.
-- Assumes nothing.
use mathlib.Core.Path.{◌≡◌, refl, sym, ap, ◌∙◌}
use mathlib.Core.Bool.{Bool, true, false, cond, not, ◌&&◌, ◌||◌, true≢false}
use mathlib.Core.List.{List, [], ◌∷◌}
use mathlib.Core.Logic.{⊎_elim, inl, inr, ◌≢◌}
use Prim.Native.Nat.{ℕ, ◌+◌, ◌*◌, ◌≤◌, ◌<◌}
use native.Mathlib.Omega.{arith}
use lib.Dec.{eqb}
use lib.ListN.{length, get_or, take, drop}
use borrow.Author.Tests.{eq-eqb, ne_eqb}
use Rattle.common_laws.specs.Bits.{bit}
use Rattle.common_laws.proofs.FillLaws.{table_is}
use Rattle.description_board.specs.declared.Board.{Board}
use Rattle.description_board.specs.Records.{master_at, start_of, memory_length}
use Rattle.description_board.specs.Legal.{Legal}
use Rattle.fabric_transfer.specs.declared.Transfer.{Transfer}
use Rattle.fabric_transfer.specs.Moving.{all, index_from}
use Rattle.fabric_transfer.specs.Bytes.{Store, buffer_length, part_of, posted_words}
use Rattle.fabric_transfer.proofs.MoveLaws.{equal_or, less_or}
use Rattle.fabric_transfer.proofs.Ranges.{agree_refl, agree_sym, move_apart, front_moved}
use Rattle.fabric_transfer.proofs.StoreLaws.{length_posted, parts_apart}
use Rattle.fabric_state.specs.declared.Slot.{Slot}
use Rattle.fabric_state.specs.declared.State.{State}
use Rattle.fabric_state.specs.declared.Line.{Line}
use Rattle.fabric_state.specs.Records.{no_line, transfer_at, slot_at, late_at}
use Rattle.fabric_state.specs.Posting.{Request, transfer_of, with_transfer}
use Rattle.fabric_state.specs.Control.{finished, mask_of, lines_of}
use Rattle.fabric_state.specs.Resetting.{state_at_reset}
use Rattle.fabric_state.specs.Logging.{without_oldest, with_log}
use Rattle.fabric_calls.specs.Calls.{clock, store_after_clock, World}
use Rattle.fabric_state.proofs.Sound.{Sound}
use Rattle.fabric_state.proofs.StateLaws.{transfer_reset, slot_reset, late_reset, mask_bit, mask_bit_past}
use Rattle.fabric_state.proofs.StateLaws.{transfer_with, transfer_with_other, slot_with, late_with}
use Rattle.fabric_state.proofs.RequestLaws.{taken_bytes}
use Rattle.theorem_history.specs.Claim.{Call, after, History, Start, Lent, names, Reference, reference_at, bytes_in, Order}
use Rattle.theorem_history.specs.Claim.{Mapped, stepped, seen, seen_all, fed_post, fed}
use Rattle.fabric_calls.proofs.RunOfClocks.{clock_is, store_is}
use Rattle.theorem_history.proofs.Histories.CallCases.{TakesPost, TakesClock, TakesEntry, with_post, with_clock, with_take}
use Rattle.theorem_history.proofs.Histories.CallCases.{named_taken, feeds}
use Rattle.theorem_history.proofs.Histories.LentLengths.{clock_lent, lent_before}
use Rattle.theorem_history.proofs.Histories.OnePost.{Taken, post_taken_lem}
use Rattle.theorem_history.proofs.Histories.Standing.{Standing, start_state, start_stands, post_stands, clock_stands}
use Rattle.theorem_history.proofs.Histories.Standing.{take_stands}
use Rattle.theorem_history.proofs.Histories.LastRequests.{HoldsLast, last_reset, last_post, last_clock, last_take}
use Rattle.theorem_history.proofs.Histories.LastRequests.{last_mapped}
use Rattle.theorem_history.proofs.ReadBytes.TransferBytes.{bytes_held, end_of, Asked, served_kept}
use Rattle.theorem_history.proofs.ReadBytes.SlaveBytes.{Wants, Right, SameMaster, asked_kept}
use Rattle.theorem_history.proofs.ReadBytes.ActiveTransfers.{active_at, active_free, active_held, active_same, active_logged}
use Rattle.theorem_history.proofs.ReadBytes.ActiveTransfers.{lies}
use Rattle.theorem_history.proofs.ReadBytes.LateBytes.{Latent, brought_kept}
use Rattle.theorem_history.proofs.ReadBytes.ClockBytes.{Agreed, clock_right, clock_read}

-- ---- the reset

module _
    (b : Board) (legal : Legal b) (d : Store) (l : length d.memory ≡ memory_length b) (n : length d.buffer ≡ buffer_length)
  where
    unheld : (m k : ℕ) → Wants b m k (active_at (state_at_reset b) m) → ⊥
    unheld m k w =
        let none = active_free (state_at_reset b) m (late_reset b m) ∙ transfer_reset b m in
        true≢false (sym w.held ∙ ap (λ (t : Transfer). t.held) none)

    slave_reset : (k : ℕ) → k < b.slave_count
        → Right b (active_at (state_at_reset b)) d (reference_at d.memory) k (slot_at (state_at_reset b) k)
    unfolding reference_at
    slave_reset k h =
        let off : (slot_at (state_at_reset b) k).serving ≡ false = rw (slot_reset b k h legal.few_slaves) in
        record {
          memory = l;
          buffer = n;
          bytes = l;
          asked = λ m w. absurd (unheld m k w);
          waits = λ m w. absurd (unheld m k w);
          wants = λ v. absurd (true≢false (sym v ∙ off));
          serves = λ v. absurd (true≢false (sym v ∙ off));
          rests = λ v. agree_refl _ _ d.memory;
        }

    latent_reset : Latent b (state_at_reset b) d (reference_at d.memory)
    unfolding Latent
    latent_reset m h = absurd (h (late_reset b m))

    reset_right : Agreed b (state_at_reset b) d (reference_at d.memory)
    reset_right = record { slaves = slave_reset; latent = latent_reset }

-- ---- a post that is not refused

module _
    (b : Board) (legal : Legal b) (st : State) (sound : Sound b st) (d : Store) (r : Reference) (q : Request)
    (fresh : Taken b st q)
  where
    -- what it leaves
    abbrev state_then : State
    state_then = with_transfer st q.master (transfer_of q)

    abbrev store_then : Store
    store_then = record { memory = d.memory; buffer = posted_words q.master q.words d.buffer }

    -- who posts has no latency clocks to pass
    poster_free : late_at st q.master ≡ 0
    poster_free = sound.free q.master fresh.free

    then_new : active_at state_then q.master ≡ transfer_of q
    then_new =
        active_free state_then q.master (late_with st q.master (transfer_of q) q.master ∙ poster_free)
        ∙ transfer_with st q.master (transfer_of q) sound.transfers (omega (arith, fresh.master, legal.few_masters))

    few : bytes_held b q.master (transfer_of q) ≤ 512
    few = taken_bytes b legal q.master (transfer_of q) fresh.fits fresh.master

    words_few : length q.words ≤ 512
    words_few = go q.write fresh.words
      where
        go : (c : Bool) → length q.words ≡ cond c (q.beats * (master_at b q.master).width) 0 → length q.words ≤ 512
        go true e = omega (arith, few)
        go false e = omega arith

    other_master : (m : ℕ) → m ≢ q.master → SameMaster d store_then r (fed_post q r) m
    unfolding fed_post posted_words
    other_master m h = record {
      part =
          agree_sym
          (move_apart all (λ i. get_or q.words i 0) (index_from (part_of q.master)) 0 (length q.words) (part_of m)
          (part_of m + 512) d.buffer
          (λ i x y on.
          ⊎_elim (λ z. inl (omega arith)) (λ z. inr (omega arith))
          (parts_apart q.master m 0 (length q.words) (λ e. h (sym e)) (omega (arith, words_few)))));
      request = rw (ne_eqb m q.master h);
      waiting = rw (ne_eqb m q.master h);
      given = refl;
    }

    new_master : length d.buffer ≡ buffer_length → Asked b store_then (fed_post q r) q.master (transfer_of q)
    unfolding fed_post posted_words
    new_master l =
        let e = eq-eqb q.master q.master refl in
        record {
          master = rw e;
          transfer = rw e;
          many = rw e fresh.words;
          there =
              rw e
              (front_moved (λ i. get_or q.words i 0) (part_of q.master) (length q.words) d.buffer
              (omega (arith, words_few, fresh.master, legal.few_masters))
              ∙ sym (table_is (λ i. get_or q.words i 0) (length q.words) 0 q.words refl (λ i l. refl)));
        }

    module _ (k : ℕ) (x : Slot) (c : Right b (active_at st) d r k x) where
      kept : (m : ℕ) → m ≢ q.master → active_at state_then m ≡ active_at st m
      kept m h =
          active_same st state_then m (transfer_with_other st q.master (transfer_of q) m h)
          (late_with st q.master (transfer_of q) m)

      -- whom the slave serves holds another transfer
      owner_other : x.serving ≡ true → x.owner ≢ q.master
      owner_other v e =
          let w = (c.wants v).held in
          let held : (transfer_at st x.owner).held ≡ true = rw (active_held st x.owner w).1 at w in
          true≢false (sym held ∙ ap (λ (i : ℕ). (transfer_at st i).held) e ∙ fresh.free)

      slave_right : Right b (active_at state_then) store_then (fed_post q r) k x
      unfolding fed_post
      slave_right = record {
        memory = c.memory;
        buffer = long;
        bytes = c.bytes;
        asked = λ m w.
            ⊎_elim
            (λ (e : m ≡ q.master). rw (e, then_new) (new_master c.buffer))
            (λ (h : m ≢ q.master).
            let w' : Wants b m k (active_at st m) = rw (kept m h) at w in
            rw (kept m h)
            (asked_kept b d store_then r (fed_post q r) m (active_at st m) (lies b legal st sound m k w').few
            (c.buffer ∙ sym long) (other_master m h) (c.asked m w')))
            (equal_or m q.master);
        waits = λ m w.
            ⊎_elim
            (λ (e : m ≡ q.master). rw (e, eq-eqb q.master q.master refl) (idle x.serving refl))
            (λ (h : m ≢ q.master). rw (ne_eqb m q.master h) (c.waits m (rw (kept m h) at w)))
            (equal_or m q.master);
        wants = λ v. rw (kept x.owner (owner_other v)) (c.wants v);
        serves = λ v.
            let o = x.owner in
            rw (kept o (owner_other v))
            (served_kept b k o (active_at st o) (lies b legal st sound o k (c.wants v)) x.done d store_then r
            (fed_post q r)
            (record {
              memory_length = refl;
              buffer_length = c.buffer ∙ sym long;
              memory = agree_refl (start_of b k) (end_of b k) d.memory;
              buffer = (other_master o (owner_other v)).part;
            })
            (agree_refl (start_of b k) (end_of b k) r.bytes) refl (c.serves v));
        rests = c.rests;
      }
        where
          long : length (posted_words q.master q.words d.buffer) ≡ buffer_length
          long = length_posted q.master q.words d.buffer ∙ c.buffer

          idle : (v : Bool) → x.serving ≡ v → true ≡ not (x.serving && eqb x.owner q.master)
          idle true v = rw (v, ne_eqb x.owner q.master (owner_other v))
          idle false v = rw v

    -- whoever passes latency clocks is another master
    latent_with : Latent b st d r → Latent b state_then store_then (fed_post q r)
    unfolding Latent
    latent_with c m h =
        let late : late_at st m ≢ 0 = rw (late_with st q.master (transfer_of q) m) at h in
        let other : m ≢ q.master = λ e. late (ap (λ (j : ℕ). late_at st j) e ∙ poster_free) in
        brought_kept b d store_then r (fed_post q r) m (sym (length_posted q.master q.words d.buffer))
        (other_master m other) (c m late)

    post_right : Agreed b st d r → Agreed b state_then store_then (fed_post q r)
    post_right c = record {
      slaves = λ k h. rw (slot_with st q.master (transfer_of q) k) (slave_right k (slot_at st k) (c.slaves k h));
      latent = latent_with c.latent;
    }

-- ---- the calls of a history

-- what stands, and the byte memory with it
record Good (b : Board) (w : World) (r : Reference) : Type 0 where
  stands : Standing b w
  right : Agreed b w.state w.store r
  last : HoldsLast w.state r.request

-- lines tell it of no request
seen_requests : (b : Board) (ss : List ℕ) (lines : List Line) (r : Reference) → (seen_all b ss lines r).request ≡ r.request
unfolding seen_all seen stepped
seen_requests b [] lines r = refl
seen_requests b (s ∷ ss) lines r =
    seen_requests b ss lines (seen b l r) ∙ one ((eqb l.phase 1 || eqb l.phase 2) && r.waiting l.owner)
  where
    l : Line
    l = get_or lines s no_line

    one : (c : Bool) → (cond c (stepped b l.owner r) r).request ≡ r.request
    one true = refl
    one false = refl

module _ (b : Board) (legal : Legal b) where
  start_good : (w : World) → Start b w → Lent b w → Good b w (reference_at w.store.memory)
  start_good w s lent = record {
    stands = start_stands b legal w s lent;
    right = rw (start_state b w s) (reset_right b legal w.store lent.memory lent.buffer);
    last = rw (start_state b w s) (last_reset b (reference_at w.store.memory).request);
  }

  post_good : (w : World) (r : Reference) (q : Request) → TakesPost b w q → Good b w r → Good b (with_post w q) (fed_post q r)
  unfolding fed_post
  post_good w r q e g =
      let t = post_taken_lem b w q e in
      record {
        stands = post_stands b legal w q g.stands t;
        right = post_right b legal w.state g.stands.sound w.store r q t g.right;
        last = last_post w.state r.request g.last q g.stands.sound.transfers
            (omega (arith, t.master, legal.few_masters));
      }

  clock_good : (w : World) (r : Reference) (order : Order) → TakesClock b w → Good b w r
      → Good b (with_clock b w) (seen_all b order.slaves (lines_of b w.state) r)
  clock_good w r order e g = record {
    stands = clock_stands b legal w g.stands;
    right = clock_right b legal w.state g.stands.sound order w.store r g.right;
    last = rw (seen_requests b order.slaves (lines_of b w.state) r) (last_clock w.state r.request g.last b);
  }

  take_good : (w : World) (r : Reference) → TakesEntry b w → Good b w r → Good b (with_take w) r
  unfolding with_log Latent
  take_good w r e g = record {
    stands = take_stands b legal w g.stands;
    right = record {
      slaves = λ k h. rw (active_logged w.state (without_oldest w.state.log)) (g.right.slaves k h);
      latent = g.right.latent;
    };
    last = last_take w.state r.request g.last (without_oldest w.state.log);
  }

-- ---- the claim

named : (b : Board) (st : State) (m : ℕ) → bit (mask_of b st) m ≡ true → finished b st m ≡ true
named b st m e =
    ⊎_elim (λ (h : m < 8). sym (mask_bit b st m h) ∙ e)
    (λ (h : 8 ≤ m). absurd (true≢false (sym e ∙ mask_bit_past b st m h)))
    (less_or m 8)

pub reads_right : (b : Board) → Legal b → (w : World) (calls : List Call) (orders : ℕ → Order) (last : Order) (m : ℕ)
    → Start b w → History b w calls
    → let u = after w calls in
    let a = clock b u.state u.store in
    let r = seen_all b last.slaves a.lines (fed b orders (reference_at w.store.memory) calls) in
    names m a ≡ true → (r.request m).write ≡ false → Mapped b (r.request m)
    → take (bytes_in b (r.request m)) (drop (part_of m) (store_after_clock b u.state u.store).buffer) ≡ r.given m
unfolding names
reads_right b legal w calls orders last m s h n =
    let first = reference_at w.store.memory in
    let u = after w calls in
    let free = named_taken b u.state u.store m n in
    let lent = lent_before b calls w h (clock_lent b u free) in
    let g = feeds b orders (Good b) (post_good b legal) (clock_good b legal) (take_good b legal) calls w h first
    (start_good b legal w s lent) in
    let told = fed b orders first calls in
    let named-now : bit (mask_of b u.state) m ≡ true = rw (clock_is b u.state u.store free) at n in
    rw (clock_is b u.state u.store free, store_is b u.state u.store free)
    (λ read mapped.
    clock_read b legal u.state g.stands.sound last u.store told g.right m
    (last_mapped u.state told.request g.last b m
    (rw (seen_requests b last.slaves (lines_of b u.state) told) at mapped))
    (named b u.state m named-now) read)
