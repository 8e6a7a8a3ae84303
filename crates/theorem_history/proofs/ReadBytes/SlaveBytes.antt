-- One slave and the masters whose transfers are for it, against the byte memory: what is true of them between any two steps of a
-- clock. The slave's own first cycles and accesses keep it, and so do those of the other slaves.
-- Assumes nothing.
use mathlib.Core.Path.{◌≡◌, refl, ◌∙◌, sym, subst}
use mathlib.Core.Bool.{Bool, true, false, cond, not, ◌&&◌, true≢false}
use mathlib.Core.Logic.{⊎_elim, inl, inr, ◌≢◌}
use Prim.Native.Nat.{ℕ, ◌+◌, ◌≤◌, ◌<◌}
use native.Mathlib.Omega.{arith}
use lib.Dec.{eqb}
use lib.ListN.{length}
use borrow.Author.Tests.{eq-eqb, ne_eqb}
use Rattle.description_board.specs.declared.Board.{Board}
use Rattle.description_board.specs.Records.{start_of, memory_length}
use Rattle.description_board.proofs.StartLaws.{end_before}
use Rattle.fabric_transfer.specs.declared.Transfer.{Transfer}
use Rattle.fabric_transfer.specs.Decoding.{target_of}
use Rattle.fabric_transfer.specs.Bytes.{Store, buffer_length, part_of}
use Rattle.fabric_transfer.proofs.MoveLaws.{equal_or, less_or}
use Rattle.fabric_transfer.proofs.Ranges.{Agree, agree_refl, agree_sym, agree_trans, Apart, front_same}
use Rattle.fabric_state.specs.declared.Slot.{Slot}
use Rattle.fabric_state.specs.Control.{slot_accessed}
use Rattle.theorem_history.specs.Claim.{Reference, stepped}
use Rattle.theorem_history.proofs.ReadBytes.TransferBytes.{bytes_held, end_of, accesses_at, access_at, Lies, Asked, Served}
use Rattle.theorem_history.proofs.ReadBytes.TransferBytes.{served_begins, served_next, served_kept, step_length}
use Rattle.theorem_history.proofs.ReadBytes.TransferBytes.{step_apart, access_lengths, access_memory, access_buffer}
use Rattle.theorem_history.proofs.ReadBytes.TransferBytes.{asked_accessed}

-- master m holds the transfer t, and it is for slave k of the board
pub record Wants (b : Board) (m k : ℕ) (t : Transfer) : Type 0 where
  pub held : t.held ≡ true
  pub target : target_of b m t.address ≡ k
  pub within : k < b.slave_count

-- slave k, whose slot is x, and the masters whose transfers are for it
pub record Right (b : Board) (held : ℕ → Transfer) (d : Store) (r : Reference) (k : ℕ) (x : Slot) : Type 0 where
  pub memory : length d.memory ≡ memory_length b
  pub buffer : length d.buffer ≡ buffer_length
  pub bytes : length r.bytes ≡ memory_length b
  pub asked : (m : ℕ) → Wants b m k (held m) → Asked b d r m (held m)
  pub waits : (m : ℕ) → Wants b m k (held m) → r.waiting m ≡ not (x.serving && eqb x.owner m)
  pub wants : x.serving ≡ true → Wants b x.owner k (held x.owner)
  pub serves : x.serving ≡ true → Served b d r k x.owner (held x.owner) x.done
  pub rests : x.serving ≡ false → Agree (start_of b k) (end_of b k) d.memory r.bytes

-- ---- what happens elsewhere does not matter

-- what a step leaves alone of master m
pub record SameMaster (d e : Store) (r s : Reference) (m : ℕ) : Type 0 where
  pub part : Agree (part_of m) (part_of m + 512) d.buffer e.buffer
  pub request : r.request m ≡ s.request m
  pub waiting : r.waiting m ≡ s.waiting m
  pub given : r.given m ≡ s.given m

-- and of slave k
pub record SameSlave (b : Board) (d e : Store) (r s : Reference) (k : ℕ) : Type 0 where
  pub memory : length d.memory ≡ length e.memory
  pub buffer : length d.buffer ≡ length e.buffer
  pub bytes : length r.bytes ≡ length s.bytes
  pub range : Agree (start_of b k) (end_of b k) d.memory e.memory
  pub step : Agree (start_of b k) (end_of b k) r.bytes s.bytes

pub asked_kept : (b : Board) (d e : Store) (r s : Reference) (m : ℕ) (t : Transfer) → bytes_held b m t ≤ 512
    → length d.buffer ≡ length e.buffer → SameMaster d e r s m → Asked b d r m t → Asked b e s m t
asked_kept b d e r s m t few l h a =
    let n = length (r.request m).words in
    let room = bound t.write n a.many in
    record {
      master = rw (← h.request) a.master;
      transfer = rw (← h.request) a.transfer;
      many = rw (← h.request) a.many;
      there =
          rw (← h.request)
          (sym (front_same n (part_of m) (part_of m) (part_of m + 512) l h.part (omega arith) room) ∙ a.there);
    }
  where
    bound : (w : Bool) (n : ℕ) → n ≡ cond w (bytes_held b m t) 0 → part_of m + n ≤ part_of m + 512
    bound true n e = omega arith
    bound false n e = omega arith

-- the slot y goes on with what the slot x serves, the transfer t, now t'
pub record GoesOn (t' t : Transfer) (x y : Slot) : Type 0 where
  pub serving : x.serving ≡ true
  pub owner : y.owner ≡ x.owner
  pub done : y.done ≡ x.done
  pub transfer : t' ≡ t

module _ (b : Board) (held : ℕ → Transfer) (k : ℕ) (lies : (m : ℕ) → Wants b m k (held m) → Lies b m k (held m)) where
  pub right_kept : (d e : Store) (r s : Reference) (x : Slot) → SameSlave b d e r s k
      → ((m : ℕ) → Wants b m k (held m) → SameMaster d e r s m) → Right b held d r k x → Right b held e s k x
  right_kept d e r s x h f c = record {
    memory = sym h.memory ∙ c.memory;
    buffer = sym h.buffer ∙ c.buffer;
    bytes = sym h.bytes ∙ c.bytes;
    asked = λ m w. asked_kept b d e r s m (held m) (lies m w).few h.buffer (f m w) (c.asked m w);
    waits = λ m w. sym (f m w).waiting ∙ c.waits m w;
    wants = c.wants;
    serves = λ v.
        let m = x.owner in
        let w = c.wants v in
        served_kept b k m (held m) (lies m w) x.done d e r s
        (record { memory_length = h.memory; buffer_length = h.buffer; memory = h.range; buffer = (f m w).part }) h.step
        (f m w).given (c.serves v);
    rests = λ v. agree_trans (agree_sym h.range) (agree_trans (c.rests v) h.step);
  }

  -- ---- the slave's own steps

  -- the first cycle of its new owner's transfer
  pub right_begins : (d : Store) (r : Reference) (x y : Slot) → x.serving ≡ false → y.serving ≡ true → y.done ≡ 0
      → Wants b y.owner k (held y.owner) → Right b held d r k x → Right b held d (stepped b y.owner r) k y
  unfolding stepped
  right_begins d r x y off on none w c =
      let o = y.owner in
      let s = stepped b o r in
      let a = c.asked o w in
      record {
        memory = c.memory;
        buffer = c.buffer;
        bytes = step_length b k o (held o) (lies o w) d r a w.target ∙ c.bytes;
        asked = λ m v.
            let q = c.asked m v in
            record { master = q.master; transfer = q.transfer; many = q.many; there = q.there };
        waits = λ m v.
            ⊎_elim
            (λ (e : m ≡ o). rw (e, on, eq-eqb o o refl))
            (λ (f : m ≢ o). rw (on, ne_eqb m o f, ne_eqb o m (λ e. f (sym e))) (c.waits m v ∙ rw off))
            (equal_or m o);
        wants = λ v. w;
        serves = λ v.
            rw none
            (served_begins b k o (held o) (lies o w) d r a w.target c.memory c.buffer c.bytes (c.rests off));
        rests = λ v. absurd (true≢false (sym on ∙ v));
      }

  -- an access
  pub right_accesses : (d : Store) (r : Reference) (x : Slot) → x.serving ≡ true
      → x.done < accesses_at b k x.owner (held x.owner) → Right b held d r k x
      → Right b held (access_at b k x.owner (held x.owner) x.done d) r k (slot_accessed x)
  unfolding slot_accessed
  right_accesses d r x on few c =
      let o = x.owner in
      let w = c.wants on in
      let e = access_at b k o (held o) x.done d in
      let l = access_lengths b k o (held o) x.done d in
      record {
        memory = l.0 ∙ c.memory;
        buffer = l.1 ∙ c.buffer;
        bytes = c.bytes;
        asked = λ m v.
            ⊎_elim
            (λ (q : o ≡ m).
            subst (λ (i : ℕ). Asked b e r i (held i)) q
            (asked_accessed b k o (held o) (lies o w) x.done d r (c.asked o w)))
            (λ (q : o ≢ m).
            asked_kept b d e r r m (held m) (lies m v).few (sym l.1)
            (record {
              part = agree_sym (access_buffer b k o (held o) (lies o w) x.done d few m q);
              request = refl;
              waiting = refl;
              given = refl;
            })
            (c.asked m v))
            (equal_or o m);
        waits = λ m v. c.waits m v ∙ rw on;
        wants = λ v. w;
        serves = λ v. served_next b k o (held o) (lies o w) x.done d r few (c.serves on);
        rests = λ v. absurd (true≢false v);
      }

  -- no longer serving, and nobody new
  pub right_idle : (d : Store) (r : Reference) (x y : Slot) → x.serving ≡ false → y.serving ≡ false → Right b held d r k x
      → Right b held d r k y
  right_idle d r x y off none c = record {
    memory = c.memory;
    buffer = c.buffer;
    bytes = c.bytes;
    asked = c.asked;
    waits = λ m w. rw none (c.waits m w ∙ rw off);
    wants = λ v. absurd (true≢false (sym v ∙ none));
    serves = λ v. absurd (true≢false (sym v ∙ none));
    rests = λ v. c.rests off;
  }

  -- the transfers of some masters are gone, and the slot goes on or is done
  pub right_passes : (held' : ℕ → Transfer) → ((m : ℕ) → (held' m).held ≡ true → held' m ≡ held m)
      → (d : Store) (r : Reference) (x y : Slot)
      → ((m : ℕ) → Wants b m k (held' m) → (x.serving && eqb x.owner m) ≡ (y.serving && eqb y.owner m))
      → (y.serving ≡ true → GoesOn (held' x.owner) (held x.owner) x y)
      → (y.serving ≡ false → Agree (start_of b k) (end_of b k) d.memory r.bytes) → Right b held d r k x
      → Right b held' d r k y
  right_passes held' same d r x y wait goes rest c = record {
    memory = c.memory;
    buffer = c.buffer;
    bytes = c.bytes;
    asked = λ m w. rw (same m w.held) (c.asked m (rw (same m w.held) at w));
    waits = λ m w. c.waits m (rw (same m w.held) at w) ∙ rw (wait m w);
    wants = λ v. let g = goes v in rw (g.owner, g.transfer) (c.wants g.serving);
    serves = λ v. let g = goes v in rw (g.owner, g.transfer, g.done) (c.serves g.serving);
    rests = rest;
  }

  -- ---- the steps of another slave i, which serves master o

  module _
      (i o : ℕ) (other : i ≢ k) (w : Wants b o i (held o)) (lies' : Lies b o i (held o))
      (d : Store) (r : Reference) (x : Slot) (c : Right b held d r k x)
    where
      apart : Apart (start_of b i) (end_of b i) (start_of b k) (end_of b k)
      apart =
          ⊎_elim (λ (l : i < k). inl (end_before b i k l)) (λ (l : k ≤ i). inr (end_before b k i (omega (arith, other))))
          (less_or i k)

      elsewhere : (m : ℕ) → Wants b m k (held m) → o ≢ m
      elsewhere m v e = other (sym w.target ∙ subst (λ (j : ℕ). target_of b j (held j).address ≡ k) (sym e) v.target)

      pub right_other_begins : Asked b d r o (held o) → Right b held d (stepped b o r) k x
      unfolding stepped
      right_other_begins a =
          right_kept d d r (stepped b o r) x
          (record {
            memory = refl;
            buffer = refl;
            bytes = sym (step_length b i o (held o) lies' d r a w.target);
            range = agree_refl (start_of b k) (end_of b k) d.memory;
            step = agree_sym (step_apart b i o (held o) lies' d r a w.target (start_of b k) (end_of b k) apart);
          })
          (λ m v. record {
            part = agree_refl (part_of m) (part_of m + 512) d.buffer;
            request = refl;
            waiting = rw (ne_eqb m o (λ e. elsewhere m v (sym e)));
            given = rw (ne_eqb m o (λ e. elsewhere m v (sym e)));
          }) c

      pub right_other_accesses : (n : ℕ) → n < accesses_at b i o (held o) → Right b held (access_at b i o (held o) n d) r k x
      right_other_accesses n l =
          let same = access_lengths b i o (held o) n d in
          right_kept d (access_at b i o (held o) n d) r r x
          (record {
            memory = sym same.0;
            buffer = sym same.1;
            bytes = refl;
            range = agree_sym (access_memory b i o (held o) lies' n d l (start_of b k) (end_of b k) apart);
            step = agree_refl (start_of b k) (end_of b k) r.bytes;
          })
          (λ m v. record {
            part = agree_sym (access_buffer b i o (held o) lies' n d l m (elsewhere m v));
            request = refl;
            waiting = refl;
            given = refl;
          }) c
