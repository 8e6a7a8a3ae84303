-- The pass over the slaves that makes one clock: why the state may be changed in place, and the steps of the loop.
-- Assumes nothing.
use mathlib.Core.Path.{◌≡◌, refl, sym, ap, ◌∙◌, fun_ext}
use mathlib.Core.Bool.{Bool, true, false, cond, not, ◌&&◌, ◌||◌, and-true, and-false, or-false}
use mathlib.Core.Logic.{◌≢◌}
use mathlib.Core.List.{List}
use Prim.Native.Nat.{ℕ, zero, suc, ◌+◌, ◌-◌, ◌^◌, ◌≤◌, ◌<◌}
use native.Mathlib.Decide.{ℕ_discrete}
use native.Mathlib.Numerals.{add-one}
use native.Mathlib.Omega.{arith}
use lib.Dec.{ltb, eqb}
use lib.ListN.{length, get_or, set}
use lib.Bits.{bit_and, and_le_l}
use lib.Seq.{set-get_or}
use borrow.Author.Tests.{lt-ltb, le-ltb, ltb-true, ltb-false, eqb-true, eq-eqb, ne_eqb}
use Rattle.common_laws.specs.Bits.{bit}
use Rattle.common_laws.specs.Lists.{table, sum, some}
use Rattle.common_laws.proofs.Tests.{both}
use Rattle.common_laws.proofs.TableLaws.{get_or_table, none_all, mask, mask_lt, bit_mask}
use Rattle.common_laws.proofs.TableLaws as masks
use Rattle.common_laws.proofs.BitLaws.{bit_and_lem}
use Rattle.common_laws.proofs.FillLaws.{sum_same, set_table, filled, filled_none, filled_next}
use Rattle.common_laws.proofs.FrontLaws.{table_same}
use Rattle.description_board.specs.Records.{Slave}
use Rattle.description_board.specs.declared.Board.{Board}
use Rattle.description_board.specs.Records.{master_at, slave_at, shares_at, total_span, start_of, memory_length}
use Rattle.description_board.specs.Legal.{Legal}
use Rattle.description_board.proofs.Accepted.{accepted_legal}
use Rattle.description_board.proofs.StartLaws.{end_inside}
use Rattle.fabric_transfer.specs.declared.Transfer.{Transfer}
use Rattle.fabric_transfer.specs.Accesses.{no_transfer}
use Rattle.fabric_arbiter.proofs.OrderLaws.{granted_agree}
use Rattle.fabric_transfer.specs.Bytes.{Store, buffer_length}
use Rattle.fabric_state.specs.declared.Slot.{Slot}
use Rattle.fabric_state.specs.declared.State.{State}
use Rattle.fabric_state.specs.declared.Line.{Line}
use Rattle.fabric_state.specs.declared.Step.{Step}
use Rattle.fabric_state.specs.Records.{no_line, no_slot, transfer_at, slot_at, late_at, arbiter_of}
use Rattle.fabric_state.specs.Soundness.{holds_for, requests, latency_at}
use Rattle.fabric_state.specs.Posting.{with_transfer}
use Rattle.fabric_state.specs.Control.{grant_at, slot_after_grant, step_of, line_after, slot_after, ends_at, ended, late_after}
use Rattle.fabric_state.specs.Control.{completed, lines_of}
use Rattle.fabric_state.specs.Carrying.{carried, carried_by}
use Rattle.fabric_state.proofs.Sound.{Sound}
use Rattle.fabric_state.proofs.SoundLaws.{sound_facts, requester, grant_sound, last_asks, ended_asks}
use Rattle.fabric_state.proofs.StateLaws.{late_ends, late_none, late_less}
use Rattle.fabric_state.proofs.StepLaws.{line_owner, last_serving}
use Rattle.fabric_state.proofs.RequestLaws.{holds_held, requests_one, requests_free, requests_latency}
use Rattle.fabric_layout.specs.Code.Puts.{with_slot, with_late, first_lines}
use Rattle.fabric_layout.proofs.StatePutLaws.{first_put}
use Rattle.fabric_check.specs.Code.Targets.{targets_in, request_mask}
use Rattle.fabric_check.proofs.TargetLaws.{mask_holds}
use Rattle.fabric_grant.specs.Code.Asking.{grant_chosen, slot_asked}
use Rattle.fabric_slave.specs.Code.Serving.{step_from, carried_from}
use Rattle.fabric_slave.proofs.ServeLaws.{from_resting, carried_resting, step_is, carried_is}
use Rattle.fabric_slave.proofs.ReachLaws.{start_next, grant_placed, grant_reached}
use Rattle.fabric_cycle.specs.declared.Latent.{Latent}
use Rattle.fabric_cycle.specs.Code.Latency.{counted_transfer, Counted}
use Rattle.fabric_cycle.specs.Code.Cycles.{Passes, state_acted, Acted}
use Rattle.fabric_cycle.specs.Code.SlaveClocks.{step_at, carried_at, latency_behind, ended_transfer}
use Rattle.fabric_cycle.specs.Code.SlaveClocks.{state_stepped, Serving, Ready, SlaveClocked}

-- ---- a mask with one number more, and a list with one element more

-- a number that passes now, and did not before
module _ (test now : ℕ → Bool) (o : ℕ) (fresh : test o ≡ false) (more : (m : ℕ) → now m ≡ (test m || eqb o m)) where
  others : (m : ℕ) → (m ≡ o → ⊥) → now m ≡ test m
  others m p = more m ∙ rw (ne_eqb o m (λ q. p (sym q))) (go (test m))
    where
      go : (c : Bool) → (c || false) ≡ c
      go true = refl
      go false = refl

  below : (n : ℕ) → n ≤ o → mask now n ≡ mask test n
  below n h = sum_same _ _ n (λ m k. ap (λ (c : Bool). cond c (2 ^ m) 0) (others m (λ q. omega arith)))

  one_more : (n : ℕ) → o < n → mask test n + 2 ^ o ≡ mask now n
  unfolding sum
  one_more zero h = absurd (omega arith)
  one_more (suc n) h = go (ℕ_discrete n o) (λ l. one_more n l)
    where
      go : Dec (n ≡ o) → (o < n → mask test n + 2 ^ o ≡ mask now n) → mask test (suc n) + 2 ^ o ≡ mask now (suc n)
      go (yes p) f =
          let here : now n ≡ true = more n ∙ rw (p, fresh, eq-eqb o o refl) in
          let before : test n ≡ false = rw p fresh in
          rw (here, before, below n (omega arith), p) (omega arith)
      go (no p) f =
          let rest = f (omega arith) in
          rw (others n p, ← rest) (omega arith)

-- or none that passes now
module _ (test now : ℕ → Bool) (o n : ℕ) (on : Bool) (low : o < n) (fresh : on ≡ true → test o ≡ false)
    (more : (m : ℕ) → now m ≡ (test m || (on && eqb o m))) where
  pub mask_more : mask test n + cond on (2 ^ o) 0 ≡ mask now n
  mask_more = go on fresh more
    where
      or-false : (c : Bool) → (c || false) ≡ c
      or-false true = refl
      or-false false = refl

      go : (c : Bool) → (c ≡ true → test o ≡ false) → ((m : ℕ) → now m ≡ (test m || (c && eqb o m)))
          → mask test n + cond c (2 ^ o) 0 ≡ mask now n
      go true f g = one_more test now o (f refl) g n low
      go false f g =
          let same = sum_same (λ m. cond (now m) (2 ^ m) 0) (λ m. cond (test m) (2 ^ m) 0) n
          (λ m k. ap (λ (c : Bool). cond c (2 ^ m) 0) (g m ∙ or-false (test m))) in
          omega (arith, same)

-- a transfer that ended before now, or ends now
ended_now : {X : Type 0} (before on : Bool) (d x : X) → cond on d (cond before d x) ≡ cond (before || (on && true)) d x
ended_now true true d x = refl
ended_now true false d x = refl
ended_now false true d x = refl
ended_now false false d x = refl

-- another master's transfer
kept_now : {X : Type 0} (before on : Bool) (d x : X) → cond before d x ≡ cond (before || (on && false)) d x
kept_now true on d x = refl
kept_now false true d x = refl
kept_now false false d x = refl

-- of n elements those are d's for which some number below i passes: the number i passes at most the test of element o
module _ {X : Type 0} (test : ℕ → ℕ → Bool) (d : ℕ → X) (z : X) (f : ℕ → X) (n i o : ℕ) (on : Bool) where
  ended_next : {l : List X} {v : X} → o < n → l ≡ table (λ m. cond (some (test m) i) (d m) (f m)) n
      → ((m : ℕ) → test m i ≡ (on && eqb o m)) → v ≡ cond on (d o) (get_or l o z)
      → set l o v ≡ table (λ m. cond (some (test m) (i + 1)) (d m) (f m)) n
  unfolding some
  ended_next {l} {v} h e t q =
      rw (e, add-one i)
      (set_table (λ m. cond (some (test m) i) (d m) (f m)) n o v ∙ table_same _ _ n (λ m k. go m (ℕ_discrete m o)))
    where
      here : v ≡ cond on (d o) (cond (some (test o) i) (d o) (f o))
      here = q ∙ rw (e, get_or_table (λ m. cond (some (test m) i) (d m) (f m)) n z o h)

      go : (m : ℕ) → Dec (m ≡ o)
          → cond (eqb m o) v (cond (some (test m) i) (d m) (f m)) ≡ cond (some (test m) i || test m i) (d m) (f m)
      go m (yes p) = rw (p, t o, eq-eqb o o refl) (here ∙ ended_now (some (test o) i) on (d o) (f o))
      go m (no p) = rw (t m, ne_eqb m o p, ne_eqb o m (λ w. p (sym w))) (kept_now (some (test m) i) on (d m) (f m))

-- a test that is made of each number, with one that is made once
some_with : (test : ℕ → Bool) (c : Bool) (n : ℕ) → some (λ i. test i && c) n ≡ (some test n && c)
unfolding some
some_with test c zero = refl
some_with test c (suc n) = rw (some_with test c n) (go (some test n) (test n) c)
  where
    go : (a d c : Bool) → ((a && c) || (d && c)) ≡ ((a || d) && c)
    go true true true = refl
    go true true false = refl
    go true false true = refl
    go true false false = refl
    go false true true = refl
    go false true false = refl
    go false false true = refl
    go false false false = refl

or_assoc : (a c d : Bool) → (a || (c || d)) ≡ ((a || c) || d)
or_assoc true c d = refl
or_assoc false c d = refl

-- ---- the state in the midst of the pass

-- slave i finishes master m: it carries out the last access, and no latency is behind it
abbrev pub finishes_at : Board → State → ℕ → ℕ → Bool
finishes_at b u m i = ends_at b u m i && eqb (latency_at b m (transfer_at u m)) 0

-- the latency clocks have passed and the first s slaves have had their clock: v was u, shown was lines, and the bytes e were d
pub record Pass (b : Board) (u v : State) (s start : ℕ) (lines shown : List Line) (done : ℕ) (d e : Store) : Type 0 where
  pub within : s ≤ b.slave_count
  pub slots : v.slots ≡ filled (λ i. (step_of b u i).slot) (slot_at u) 16 s
  pub log : v.log ≡ u.log
  pub transfers : v.transfers ≡ table (λ m. cond (some (finishes_at b u m) s) no_transfer (counted_transfer u m)) 8
  pub late : v.late ≡ table (λ m. cond (some (ends_at b u m) s) (latency_at b m (transfer_at u m)) (late_at u m - 1)) 8
  pub shows : shown ≡ filled (λ i. (step_of b u i).line) (λ i. get_or lines i no_line) 16 s
  pub finished : done ≡ mask (λ m. eqb (late_at u m) 1 || some (finishes_at b u m) s) 8
  pub begins : start ≡ start_of b s
  pub memory : length e.memory ≡ length d.memory
  pub buffer : length e.buffer ≡ length d.buffer
  pub bytes : e ≡ carried_by b u s d

-- what stood before the clock: u, of which the latency clocks have passed in v, and the masks of who holds a transfer for which
-- slave
pub record Begun (b : Board) (u v : State) (holders : List ℕ) (x : Latent) : Type 0 where
  pub passes : Passes b u
  pub transfers : length u.transfers ≡ 8
  pub slots : length u.slots ≡ 16
  pub lates : length u.late ≡ 8
  pub counted : Counted u v 8 x
  pub masks : holders ≡ table (request_mask (targets_in b u.transfers)) 16

-- what one slave's clock changes of the state
module _ (b : Board) (v : State) (s : ℕ) (x : Slot) where
  stepped_slots : (state_stepped b v s x).slots ≡ set v.slots s (step_at b v s x).slot
  unfolding state_stepped ended_transfer with_transfer with_late with_slot
  stepped_slots = go (step_at b v s x).last (eqb (latency_behind b v s x) 0)
    where
      go : (c e : Bool)
          → (cond c
          (cond e (with_transfer (with_slot v s (step_at b v s x).slot) x.owner no_transfer)
          (with_late (with_slot v s (step_at b v s x).slot) x.owner (latency_behind b v s x)))
          (with_slot v s (step_at b v s x).slot)).slots
          ≡ set v.slots s (step_at b v s x).slot
      go true true = refl
      go true false = refl
      go false e = refl

  stepped_log : (state_stepped b v s x).log ≡ v.log
  unfolding state_stepped ended_transfer with_transfer with_late with_slot
  stepped_log = go (step_at b v s x).last (eqb (latency_behind b v s x) 0)
    where
      go : (c e : Bool)
          → (cond c
          (cond e (with_transfer (with_slot v s (step_at b v s x).slot) x.owner no_transfer)
          (with_late (with_slot v s (step_at b v s x).slot) x.owner (latency_behind b v s x)))
          (with_slot v s (step_at b v s x).slot)).log
          ≡ v.log
      go true true = refl
      go true false = refl
      go false e = refl

  stepped_transfers : (state_stepped b v s x).transfers
      ≡ set v.transfers x.owner
      (cond ((step_at b v s x).last && eqb (latency_behind b v s x) 0) no_transfer (get_or v.transfers x.owner no_transfer))
  unfolding state_stepped ended_transfer with_transfer with_late with_slot
  stepped_transfers = go (step_at b v s x).last (eqb (latency_behind b v s x) 0)
    where
      same : v.transfers ≡ set v.transfers x.owner (get_or v.transfers x.owner no_transfer)
      same = sym (set-get_or v.transfers x.owner no_transfer)

      go : (c e : Bool)
          → (cond c
          (cond e (with_transfer (with_slot v s (step_at b v s x).slot) x.owner no_transfer)
          (with_late (with_slot v s (step_at b v s x).slot) x.owner (latency_behind b v s x)))
          (with_slot v s (step_at b v s x).slot)).transfers
          ≡ set v.transfers x.owner (cond (c && e) no_transfer (get_or v.transfers x.owner no_transfer))
      go true true = refl
      go true false = same
      go false e = same

  -- with a latency of 0 there is nothing to put where nothing is to pass
  stepped_late : ((step_at b v s x).last ≡ true → get_or v.late x.owner 0 ≡ 0)
      → (state_stepped b v s x).late
      ≡ set v.late x.owner (cond (step_at b v s x).last (latency_behind b v s x) (get_or v.late x.owner 0))
  unfolding state_stepped ended_transfer with_transfer with_late with_slot
  stepped_late none = go (step_at b v s x).last refl (eqb (latency_behind b v s x) 0) refl
    where
      same : v.late ≡ set v.late x.owner (get_or v.late x.owner 0)
      same = sym (set-get_or v.late x.owner 0)

      go : (c : Bool) → (step_at b v s x).last ≡ c → (e : Bool) → eqb (latency_behind b v s x) 0 ≡ e
          → (cond c
          (cond e (with_transfer (with_slot v s (step_at b v s x).slot) x.owner no_transfer)
          (with_late (with_slot v s (step_at b v s x).slot) x.owner (latency_behind b v s x)))
          (with_slot v s (step_at b v s x).slot)).late
          ≡ set v.late x.owner (cond c (latency_behind b v s x) (get_or v.late x.owner 0))
      go true p true q =
          let z = eqb-true (latency_behind b v s x) 0 q in
          same ∙ ap (set v.late x.owner) (none p ∙ sym z)
      go true p false q = refl
      go false p e q = same

-- what the call is handed, for a state of 8 transfers, 16 slots and 8 counts of latency clocks
module _ (b : Board) (u : State) (l : length u.transfers ≡ 8) (k : length u.slots ≡ 16) (n : length u.late ≡ 8)
    (r : Passes b u) where
  pub runs_legal : Legal b
  runs_legal = accepted_legal b r.board

  pub runs_sound : Sound b u
  runs_sound = sound_facts b u l k n runs_legal.few_slaves r.state

  -- whose last access is carried out has no latency clocks to pass
  ended_free : (m : ℕ) → ended b u m ≡ true → late_at u m ≡ 0
  ended_free m e =
      let a = ended_asks b u runs_legal runs_sound m e in
      requests_free b u a.0 m a.2

  not_ended_late : (m : ℕ) → late_at u m ≢ 0 → ended b u m ≡ false
  not_ended_late m h = go (ended b u m) refl
    where
      go : (c : Bool) → ended b u m ≡ c → ended b u m ≡ false
      go true e = absurd (h (ended_free m e))
      go false e = e

  -- the slave s, whose clock it is
  module _ (s : ℕ) (h : s < b.slave_count) where
    -- who requests it has its last access at no other slave
    no_end : (m : ℕ) → requests b u s m ≡ true → (i : ℕ) → i < s → ends_at b u m i ≡ false
    unfolding ends_at
    no_end m mine i below = go (ends_at b u m i) refl
      where
        go : (c : Bool) → ends_at b u m i ≡ c → ends_at b u m i ≡ false
        go false e = e
        go true e =
            let t = both (step_of b u i).last (eqb (step_of b u i).line.owner m) e in
            let same = eqb-true (step_of b u i).line.owner m t.1 in
            let low : i < b.slave_count = omega arith in
            let theirs = rw same at (last_asks b u runs_legal runs_sound i low t.0) in
            let one = requests_one b u m i s runs_legal theirs mine in
            absurd (omega arith)

    not_ended : (m : ℕ) → requests b u s m ≡ true → some (ends_at b u m) s ≡ false
    not_ended m mine = none_all (ends_at b u m) s (no_end m mine)

    not_finished : (m : ℕ) → requests b u s m ≡ true → some (finishes_at b u m) s ≡ false
    not_finished m mine = none_all (finishes_at b u m) s (λ i h. rw (no_end m mine i h))

    owner_low : (slot_after_grant b u s).owner < 8
    owner_low = omega (arith, (grant_sound b u runs_legal runs_sound s h).owner, runs_legal.few_masters)

    place_low : s < 16
    place_low = omega (arith, runs_legal.few_slaves)

    abbrev owner : ℕ
    owner = (slot_after_grant b u s).owner

    -- the latency of what its owner holds
    abbrev behind : ℕ
    behind = latency_at b owner (transfer_at u owner)

    -- a last access here is its owner's, who requests it
    last_owner : (step_of b u s).last ≡ true → requests b u s owner ≡ true
    last_owner f = ((grant_sound b u runs_legal runs_sound s h).serving (last_serving b u s f)).asks

    ends_owner : (m : ℕ) → ends_at b u m s ≡ ((step_of b u s).last && eqb owner m)
    unfolding ends_at
    ends_owner m = go (step_of b u s).last refl
      where
        go : (c : Bool) → (step_of b u s).last ≡ c → (c && eqb (step_of b u s).line.owner m) ≡ (c && eqb owner m)
        go true f = rw (line_owner b u s (last_serving b u s f))
        go false f = refl

    finishes_owner : (m : ℕ) → finishes_at b u m s ≡ (((step_of b u s).last && eqb behind 0) && eqb owner m)
    finishes_owner m = rw (ends_owner m) (go (ℕ_discrete owner m))
      where
        swap : (c d : Bool) → ((c && true) && d) ≡ ((c && d) && true)
        swap true true = refl
        swap true false = refl
        swap false d = refl

        none : (c d e : Bool) → ((c && false) && d) ≡ ((c && e) && false)
        none true d true = refl
        none true d false = refl
        none false d e = refl

        go : Dec (owner ≡ m)
            → (((step_of b u s).last && eqb owner m) && eqb (latency_at b m (transfer_at u m)) 0)
            ≡ (((step_of b u s).last && eqb behind 0) && eqb owner m)
        go (yes p) = rw (← p, eq-eqb owner owner refl) (swap (step_of b u s).last (eqb behind 0))
        go (no p) = rw (ne_eqb owner m p) (none (step_of b u s).last (eqb (latency_at b m (transfer_at u m)) 0) (eqb behind 0))

    -- and was not finished before
    fresh : ((step_of b u s).last && eqb behind 0) ≡ true → (eqb (late_at u owner) 1 || some (finishes_at b u owner) s) ≡ false
    fresh e =
        let mine = last_owner (both (step_of b u s).last (eqb behind 0) e).0 in
        rw (requests_free b u s owner mine, not_finished owner mine)

    -- what the slave reads in the state v, which is being changed, stood in u
    module _ (v : State) (slots : v.slots ≡ filled (λ i. (step_of b u i).slot) (slot_at u) 16 s)
        (transfers : v.transfers ≡ table (λ m. cond (some (finishes_at b u m) s) no_transfer (counted_transfer u m)) 8) where
      slot_same : slot_at v s ≡ slot_at u s
      unfolding filled
      slot_same =
          rw slots
          (get_or_table (λ i. cond (ltb i s) (step_of b u i).slot (slot_at u i)) 16 no_slot s place_low
          ∙ rw (le-ltb s s (omega arith)))

      transfer_same : (m : ℕ) → requests b u s m ≡ true → transfer_at v m ≡ transfer_at u m
      unfolding counted_transfer
      transfer_same m mine =
          let low : m < 8 = omega (arith, (requester b u runs_legal runs_sound s m mine).0, runs_legal.few_masters) in
          rw transfers
          (get_or_table (λ i. cond (some (finishes_at b u i) s) no_transfer (counted_transfer u i)) 8 no_transfer m low
          ∙ rw (not_finished m mine, requests_free b u s m mine))

      owner_same : (slot_after_grant b u s).serving ≡ true
          → transfer_at v (slot_after_grant b u s).owner ≡ transfer_at u (slot_after_grant b u s).owner
      owner_same on = transfer_same _ ((grant_sound b u runs_legal runs_sound s h).serving on).asks

      -- rule 1, by the mask of who requests it in u: of those who hold a transfer for it, who has no latency clocks to pass
      module _ (mask : ℕ)
          (e : mask ≡ bit_and (request_mask (targets_in b u.transfers) s) (masks.mask (λ m. eqb (late_at u m) 0) 8))
        where
          mask_bits : (m : ℕ) → bit mask m ≡ requests b u s m
          unfolding requests
          mask_bits m =
              rw e
              (bit_and_lem (request_mask (targets_in b u.transfers) s) (masks.mask (λ i. eqb (late_at u i) 0) 8) m
              ∙ rw (mask_holds b r.board u l s h m) (go (ltb m 8) refl (holds_for b u s m) refl))
            where
              go : (c : Bool) → ltb m 8 ≡ c → (d : Bool) → holds_for b u s m ≡ d
                  → (d && bit (masks.mask (λ i. eqb (late_at u i) 0) 8) m) ≡ (eqb (late_at u m) 0 && d)
              go c p false q = sym (and-false (eqb (late_at u m) 0))
              go true p true q =
                  bit_mask (λ i. eqb (late_at u i) 0) 8 m (ltb-true m 8 p)
                  ∙ sym (and-true (eqb (late_at u m) 0))
              go false p true q =
                  let far = ltb-false m 8 p in
                  absurd (omega (arith, (runs_sound.holds m (holds_held b u s m q)).0, runs_legal.few_masters))

          asked_same : slot_asked b v s mask ≡ slot_after_grant b u s
          unfolding slot_asked grant_chosen slot_after_grant grant_at
          asked_same =
              let f : bit mask ≡ requests b u s = fun_ext mask_bits in
              let g = granted_agree b.master_count (requests b u s) (λ m. shares_at b m s) (λ m. (transfer_at v m).beats)
              (λ m. (transfer_at u m).beats) (arbiter_of (slot_at u s))
              (λ m q. ap (λ (t : Transfer). t.beats) (transfer_same m q)) in
              rw (slot_same, f, g)

          mask_small : mask < 256
          unfolding request_mask
          mask_small =
              rw e
              (omega (
                arith,
                mask_lt (λ m. eqb (get_or (targets_in b u.transfers) m 0) s) 8,
                and_le_l (request_mask (targets_in b u.transfers) s) (masks.mask (λ m. eqb (late_at u m) 0) 8),
              ))

          serving_there : {start : ℕ} → start ≡ start_of b s → (d : Store) → length d.memory ≡ memory_length b
              → length d.buffer ≡ buffer_length → (slot_after_grant b u s).serving ≡ true
              → Serving b v s (slot_after_grant b u s) start d
          serving_there f d p q on = record {
            slave = place_low;
            owner = owner_low;
            serves = record {
              serving = on;
              placed = rw (owner_same on) (grant_placed b u runs_legal runs_sound s h on);
              reached = rw (f, owner_same on) (grant_reached b u runs_legal runs_sound s h on d p q);
            };
          }

          pub ready : {start : ℕ} → start ≡ start_of b s → (d : Store) → length d.memory ≡ memory_length b
              → length d.buffer ≡ buffer_length → Ready b v s mask start d
          ready f d p q = record {
            slave = place_low;
            small = mask_small;
            serves = λ on. rw asked_same (serving_there f d p q (rw asked_same at on));
          }

          -- rules 2 and 3, and the bytes: of the transfers they read the owner's alone, and that only where the slave serves
          from_owner : {X : Type 0} (f : Transfer → X)
              → ((slot_after_grant b u s).serving ≡ false → (t t' : Transfer) → f t ≡ f t')
              → f (transfer_at v (slot_after_grant b u s).owner) ≡ f (transfer_at u (slot_after_grant b u s).owner)
          from_owner f rests = go (slot_after_grant b u s).serving refl
            where
              go : (c : Bool) → (slot_after_grant b u s).serving ≡ c
                  → f (transfer_at v (slot_after_grant b u s).owner) ≡ f (transfer_at u (slot_after_grant b u s).owner)
              go true on = ap f (owner_same on)
              go false off = rests off _ _

          step_same : step_at b v s (slot_asked b v s mask) ≡ step_of b u s
          unfolding step_at
          step_same =
              let x = slot_after_grant b u s in
              rw asked_same
              (from_owner (λ t. step_from (master_at b x.owner) (slave_at b s) t x)
              (λ off t t'. sym (from_resting _ _ t x off) ∙ from_resting _ _ t' x off)
              ∙ step_is b u s refl)

          bytes_same : {start : ℕ} → start ≡ start_of b s → (d : Store)
              → carried_at b v s (slot_asked b v s mask) start d ≡ carried b u s d
          unfolding carried_at
          bytes_same f d =
              let x = slot_after_grant b u s in
              rw (f, asked_same)
              (from_owner (λ t. carried_from (master_at b x.owner) (slave_at b s) t x (start_of b s) d)
              (λ off t t'. sym (carried_resting _ _ t x (start_of b s) d off) ∙ carried_resting _ _ t' x (start_of b s) d off)
              ∙ carried_is b u s refl d)

    -- a pass of the loop
    module _ {v : State} {start : ℕ} {lines shown : List Line} {done : ℕ} (d c : Store)
        (p : Pass b u v s start lines shown done d c) (mask : ℕ)
        (e : mask ≡ bit_and (request_mask (targets_in b u.transfers) s) (masks.mask (λ m. eqb (late_at u m) 0) 8))
      where
        pub pass_ready : length d.memory ≡ memory_length b → length d.buffer ≡ buffer_length → Ready b v s mask start c
        pass_ready m q =
            ready v p.slots p.transfers mask e p.begins c (p.memory ∙ m) (p.buffer ∙ q)

        module _ {w : State} {after : List Line} {weight : ℕ} (f : Store)
            (t : SlaveClocked b v w s (slot_asked b v s mask) start shown after weight c f) where
          asked : slot_asked b v s mask ≡ slot_after_grant b u s
          asked = asked_same v p.slots p.transfers mask e

          stepped : step_at b v s (slot_asked b v s mask) ≡ step_of b u s
          stepped = step_same v p.slots p.transfers mask e

          slots_next : w.slots ≡ filled (λ i. (step_of b u i).slot) (slot_at u) 16 (s + 1)
          slots_next =
              ap (λ (x : State). x.slots) t.state ∙ stepped_slots b v s (slot_asked b v s mask)
              ∙ filled_next (λ i. (step_of b u i).slot) (slot_at u) 16 s p.slots (ap (λ (y : Step). y.slot) stepped)

          -- the latency behind a last access here is that of what its owner held before the clock
          behind_same : (step_of b u s).last ≡ true → latency_behind b v s (slot_asked b v s mask) ≡ behind
          unfolding latency_behind
          behind_same f =
              rw (asked, owner_same v p.slots p.transfers (last_serving b u s f))
              (sym (requests_latency b u s owner runs_legal (last_owner f)))

          ends_now : ((step_of b u s).last && eqb (latency_behind b v s (slot_asked b v s mask)) 0) ≡ ((step_of b u s).last && eqb behind 0)
          ends_now = go (step_of b u s).last refl
            where
              go : (y : Bool) → (step_of b u s).last ≡ y
                  → (y && eqb (latency_behind b v s (slot_asked b v s mask)) 0) ≡ (y && eqb behind 0)
              go true f = ap (λ (x : ℕ). eqb x 0) (behind_same f)
              go false f = refl

          transfers_next : w.transfers ≡ table (λ m. cond (some (finishes_at b u m) (s + 1)) no_transfer (counted_transfer u m)) 8
          transfers_next =
              ap (λ (x : State). x.transfers) t.state ∙ stepped_transfers b v s (slot_asked b v s mask)
              ∙ rw (stepped, ends_now, asked)
              (ended_next (finishes_at b u) (λ m. no_transfer) no_transfer (counted_transfer u) 8 s owner
              ((step_of b u s).last && eqb behind 0) owner_low p.transfers finishes_owner refl)

          -- whose last access it is has none to pass yet
          none_late : (step_of b u s).last ≡ true → get_or v.late owner 0 ≡ 0
          none_late f =
              let mine = last_owner f in
              rw p.late
              (get_or_table (λ m. cond (some (ends_at b u m) s) (latency_at b m (transfer_at u m)) (late_at u m - 1)) 8 0 owner owner_low
              ∙ rw (not_ended owner mine, requests_free b u s owner mine))

          late_next : w.late ≡ table (λ m. cond (some (ends_at b u m) (s + 1)) (latency_at b m (transfer_at u m)) (late_at u m - 1)) 8
          late_next =
              ap (λ (x : State). x.late) t.state
              ∙ stepped_late b v s (slot_asked b v s mask) (λ f. rw asked (none_late (sym (ap (λ (y : Step). y.last) stepped) ∙ f)))
              ∙ rw (stepped, asked)
              (ended_next (ends_at b u) (λ m. latency_at b m (transfer_at u m)) 0 (λ m. late_at u m - 1) 8 s owner (step_of b u s).last
              owner_low p.late ends_owner (go (step_of b u s).last refl))
            where
              go : (y : Bool) → (step_of b u s).last ≡ y
                  → cond y (latency_behind b v s (slot_after_grant b u s)) (get_or v.late owner 0) ≡ cond y behind (get_or v.late owner 0)
              go true f = ap (latency_behind b v s) (sym asked) ∙ behind_same f
              go false f = refl

          finished_next : done + weight ≡ masks.mask (λ m. eqb (late_at u m) 1 || some (finishes_at b u m) (s + 1)) 8
          unfolding some
          finished_next =
              rw (p.finished, t.weight, stepped, ends_now, asked, add-one s)
              (mask_more (λ m. eqb (late_at u m) 1 || some (finishes_at b u m) s)
              (λ m. eqb (late_at u m) 1 || (some (finishes_at b u m) s || finishes_at b u m s))
              owner 8 ((step_of b u s).last && eqb behind 0) owner_low fresh
              (λ m. rw (finishes_owner m) (or_assoc (eqb (late_at u m) 1) (some (finishes_at b u m) s) _)))

          pub pass_fits : done + weight < 256
          pass_fits = rw finished_next (mask_lt (λ m. eqb (late_at u m) 1 || some (finishes_at b u m) (s + 1)) 8)

          pub pass_next : {sl : Slave} → sl ≡ slave_at b s → length f.memory ≡ length c.memory
              → length f.buffer ≡ length c.buffer
              → Pass b u w (s + 1) (start + sl.span) lines after (done + weight) d f
          unfolding carried_by
          pass_next q m n = record {
            within = omega arith;
            slots = slots_next;
            log = ap (λ (x : State). x.log) t.state ∙ stepped_log b v s (slot_asked b v s mask) ∙ p.log;
            transfers = transfers_next;
            late = late_next;
            shows = t.shows
                ∙ filled_next (λ i. (step_of b u i).line) (λ i. get_or lines i no_line) 16 s p.shows
                (ap (λ (y : Step). y.line) stepped);
            finished = finished_next;
            begins = rw (p.begins, q) (sym (start_next b s));
            memory = m ∙ p.memory;
            buffer = n ∙ p.buffer;
            bytes = t.store ∙ bytes_same v p.slots p.transfers mask e p.begins c
                ∙ rw (p.bytes, add-one s);
          }

        pub start_fits : {sl : Slave} → sl ≡ slave_at b s → start + sl.span ≤ 65536
        start_fits q = rw (p.begins, q) (omega (arith, end_inside b s h, runs_legal.total))

-- ---- the pass from its beginning to its end

module _ (b : Board) (u : State) (l : length u.transfers ≡ 8) (k : length u.slots ≡ 16) (n : length u.late ≡ 8)
    (r : Passes b u) where
  -- the latency clocks have passed, and no slave has had its clock
  module _ {v : State} {x : Latent} (c : Counted u v 8 x) where
    pub pass_begin : (lines : List Line) (d : Store) → length lines ≡ 16 → Pass b u v 0 0 lines lines x.finished d d
    unfolding some start_of total_span carried_by counted_transfer
    pass_begin lines d full = record {
      within = omega arith;
      slots = c.slots ∙ filled_none (λ i. (step_of b u i).slot) (slot_at u) 16 no_slot u.slots k (λ i h. refl);
      log = c.log;
      transfers = c.transfers ∙ table_same _ _ 8 (λ m h. rw (lt-ltb m 8 h));
      late = c.late ∙ table_same _ _ 8 (λ m h. rw (lt-ltb m 8 h));
      shows = filled_none (λ i. (step_of b u i).line) (λ i. get_or lines i no_line) 16 no_line lines full (λ i h. refl);
      finished =
          c.finished
          ∙ sum_same _ _ 8 (λ m h. ap (λ (y : Bool). cond y (2 ^ m) 0) (sym (or-false (eqb (late_at u m) 1))));
      begins = refl;
      memory = refl;
      buffer = refl;
      bytes = refl;
    }

  -- who has completed its transfer in this clock, and the latency clocks behind it, by the last accesses of all slaves
  completed_is : (m : ℕ) → completed b u m ≡ (eqb (late_at u m) 1 || some (finishes_at b u m) b.slave_count)
  unfolding completed ended
  completed_is m = rw (some_with (ends_at b u m) (eqb (latency_at b m (transfer_at u m)) 0) b.slave_count) (go (ℕ_discrete (late_at u m) 0))
    where
      behind : ℕ
      behind = latency_at b m (transfer_at u m)

      idle : late_at u m ≡ 0 → (c : Bool) → ended b u m ≡ c
          → ((not (eqb (late_at u m) 0) || c) && eqb (late_after b u m) 0) ≡ (eqb (late_at u m) 1 || (c && eqb behind 0))
      idle z true e = rw (z, late_ends b u m z e)
      idle z false e = rw z

      go : Dec (late_at u m ≡ 0)
          → ((not (eqb (late_at u m) 0) || ended b u m) && eqb (late_after b u m) 0)
          ≡ (eqb (late_at u m) 1 || (ended b u m && eqb behind 0))
      go (yes z) = idle z (ended b u m) refl
      go (no z) =
          rw (not_ended_late b u l k n r m z, ne_eqb (late_at u m) 0 z, late_less b u m z)
          (last (ℕ_discrete (late_at u m) 1))
        where
          last : Dec (late_at u m ≡ 1) → eqb (late_at u m - 1) 0 ≡ (eqb (late_at u m) 1 || false)
          last (yes e) = rw e
          last (no e) =
              rw (ne_eqb (late_at u m) 1 e) (ne_eqb (late_at u m - 1) 0 (λ q. e (more q)))
            where
              positive : (x : ℕ) → x ≢ 0 → 1 ≤ x
              positive zero w = absurd (w refl)
              positive (suc x) w = omega arith

              more : late_at u m - 1 ≡ 0 → late_at u m ≡ 1
              more q = let h : 1 ≤ late_at u m = positive (late_at u m) z in omega (arith, q, h)

  late_is : (m : ℕ)
      → late_after b u m ≡ cond (some (ends_at b u m) b.slave_count) (latency_at b m (transfer_at u m)) (late_at u m - 1)
  unfolding ended
  late_is m = go (ℕ_discrete (late_at u m) 0) (ended b u m) refl
    where
      go : Dec (late_at u m ≡ 0) → (c : Bool) → ended b u m ≡ c
          → late_after b u m ≡ cond (ended b u m) (latency_at b m (transfer_at u m)) (late_at u m - 1)
      go (yes z) true e = late_ends b u m z e ∙ rw e
      go (yes z) false e = late_none b u m z e ∙ rw (e, z)
      go (no z) c e = late_less b u m z ∙ rw (not_ended_late b u l k n r m z)

  pub pass_end : (v : State) (s start : ℕ) (lines shown : List Line) (done : ℕ) (d e : Store) {i : ℕ}
      {after : List Line} → Pass b u v s start lines shown done d e → s ≡ b.slave_count → i ≡ b.slave_count
      → after ≡ first_lines i shown → Acted b u v after done d e
  unfolding state_acted slot_after lines_of line_after filled counted_transfer
  pass_end v s start lines shown done d e {i} {after} p f g q = record {
    state =
        let a : v.transfers ≡ (state_acted b u).transfers = (rw f at p.transfers) ∙ table_same _ _ 8 (λ m h. ended_transfer_lem m) in
        let c : v.slots ≡ (state_acted b u).slots = rw f at p.slots in
        let w : v.late ≡ (state_acted b u).late = (rw f at p.late) ∙ table_same _ _ 8 (λ m h. sym (late_is m)) in
        rw (a, c, w, p.log) refl;
    lines =
        first_put (λ j. (step_of b u j).line) (λ j. get_or lines j no_line) b.slave_count (rw f at p.shows) (rw g at q);
    mask =
        (rw f at p.finished) ∙ sum_same _ _ 8 (λ m h. ap (λ (y : Bool). cond y (2 ^ m) 0) (sym (completed_is m)));
    store = rw f at p.bytes;
  }
    where
      ended_transfer_lem : (m : ℕ)
          → cond (some (finishes_at b u m) b.slave_count) no_transfer (counted_transfer u m)
          ≡ cond (completed b u m) no_transfer (transfer_at u m)
      ended_transfer_lem m = rw (completed_is m) (go (eqb (late_at u m) 1) (some (finishes_at b u m) b.slave_count))
        where
          go : (c y : Bool) → cond y no_transfer (cond c no_transfer (transfer_at u m)) ≡ cond (c || y) no_transfer (transfer_at u m)
          go true true = refl
          go true false = refl
          go false true = refl
          go false false = refl
