-- The zeros of unmapped reads (rule 4.17): where they are, and what they leave alone.
-- Assumes nothing.
use mathlib.Core.Path.{◌≡◌, refl, sym, ◌∙◌}
use mathlib.Core.Bool.{Bool, true, false, not, true≢false}
use mathlib.Core.Logic.{◌≢◌}
use Prim.Native.Nat.{ℕ, zero, suc, ◌+◌, ◌*◌, ◌≤◌, ◌<◌}
use native.Mathlib.Decide.{ℕ_discrete}
use native.Mathlib.Omega.{arith}
use lib.ListN.{length, replicate}
use Rattle.common_laws.proofs.Tests.{both}
use Rattle.description_board.specs.declared.Board.{Board}
use Rattle.description_board.specs.Records.{master_at}
use Rattle.description_board.specs.Legal.{Legal}
use Rattle.fabric_transfer.specs.Bytes.{Store, buffer_length, part_of, cleared_words}
use Rattle.fabric_transfer.proofs.Ranges.{Agree, agree_refl, agree_trans, front, front_same}
use Rattle.fabric_transfer.proofs.StoreLaws.{length_cleared, cleared_front, cleared_apart}
use Rattle.fabric_state.specs.declared.State.{State}
use Rattle.fabric_state.specs.Records.{transfer_at}
use Rattle.fabric_state.specs.Soundness.{unmapped_at}
use Rattle.fabric_state.specs.Carrying.{clears, cleared_by}
use Rattle.fabric_state.proofs.Sound.{Sound}
use Rattle.fabric_state.proofs.RequestLaws.{unmapped_held, taken_bytes}
use Rattle.fabric_state.proofs.StoreLengths.{cleared_length}

module _ (b : Board) (st : State) where
  -- the bytes of master m's transfer
  abbrev size : ℕ → ℕ
  size m = (transfer_at st m).beats * (master_at b m).width

  -- who holds an unmapped read, and who does not
  pub clears_of : (m : ℕ) → unmapped_at b st m ≡ true → (transfer_at st m).write ≡ false → clears b st m ≡ true
  unfolding clears
  clears_of m e f = rw (e, f)

  pub clears_not : (m : ℕ) → unmapped_at b st m ≡ false → clears b st m ≡ false
  unfolding clears
  clears_not m e = rw e

  -- one more master
  clears_one : (n : ℕ) (d : Store) → clears b st n ≡ true
      → cleared_by b st (suc n) d
      ≡ record {
        memory = (cleared_by b st n d).memory;
        buffer = cleared_words n (size n) (cleared_by b st n d).buffer;
      }
  unfolding cleared_by
  clears_one n d e = rw e

  clears_none : (n : ℕ) (d : Store) → clears b st n ≡ false → cleared_by b st (suc n) d ≡ cleared_by b st n d
  unfolding cleared_by
  clears_none n d e = rw e

  -- the memory stays
  pub cleared_memory : (n : ℕ) (d : Store) → (cleared_by b st n d).memory ≡ d.memory
  cleared_memory zero d = unfold cleared_by in refl
  cleared_memory (suc n) d = go (clears b st n) refl (cleared_memory n d)
    where
      go : (c : Bool) → clears b st n ≡ c → (cleared_by b st n d).memory ≡ d.memory → (cleared_by b st (suc n) d).memory ≡ d.memory
      go true e rest = rw (clears_one n d e) rest
      go false e rest = rw (clears_none n d e) rest

  module _ (legal : Legal b) (x : Sound b st) where
    -- the words of an unmapped read fit their master's part
    clears_few : (m : ℕ) → clears b st m ≡ true → size m ≤ 512
    unfolding clears
    clears_few m e =
        let held = unmapped_held b st m (both (unmapped_at b st m) (not (transfer_at st m).write) e).0 in
        let r = x.holds m held in
        taken_bytes b legal m (transfer_at st m) r.1 r.0

    -- the part of a master that holds no unmapped read stays
    pub cleared_part : (n : ℕ) (d : Store) (k : ℕ) → clears b st k ≡ false
        → Agree (part_of k) (part_of k + 512) (cleared_by b st n d).buffer d.buffer
    cleared_part zero d k off = unfold cleared_by in agree_refl (part_of k) (part_of k + 512) d.buffer
    cleared_part (suc n) d k off = go (clears b st n) refl (cleared_part n d k off)
      where
        go : (c : Bool) → clears b st n ≡ c → Agree (part_of k) (part_of k + 512) (cleared_by b st n d).buffer d.buffer
            → Agree (part_of k) (part_of k + 512) (cleared_by b st (suc n) d).buffer d.buffer
        go true e rest =
            let other : n ≢ k = λ q. true≢false (sym e ∙ rw q off) in
            rw (clears_one n d e)
            (agree_trans (cleared_apart n k (size n) (cleared_by b st n d).buffer other (clears_few n e)) rest)
        go false e rest = rw (clears_none n d e) rest

    -- at the front of the part of a master that holds one there are zeros
    pub cleared_zeros : (n : ℕ) (d : Store) (m : ℕ) → n ≤ 8 → length d.buffer ≡ buffer_length → clears b st m ≡ true → m < n
        → front (size m) (part_of m) (cleared_by b st n d).buffer ≡ replicate (size m) 0
    cleared_zeros zero d m few l on h = absurd (omega arith)
    cleared_zeros (suc n) d m few l on h = go (ℕ_discrete m n) (clears b st n) refl (cleared_zeros n d m (omega arith) l on)
      where
        before : Store
        before = cleared_by b st n d

        long : length before.buffer ≡ buffer_length
        long = (cleared_length b st n d).1 ∙ l

        go : Dec (m ≡ n) → (c : Bool) → clears b st n ≡ c
            → (m < n → front (size m) (part_of m) before.buffer ≡ replicate (size m) 0)
            → front (size m) (part_of m) (cleared_by b st (suc n) d).buffer ≡ replicate (size m) 0
        go (yes q) true e rest =
            rw (clears_one n d e, q) (cleared_front n (size n) before.buffer (omega (arith, long, clears_few n e)))
        go (yes q) false e rest = absurd (true≢false (sym on ∙ rw q e))
        go (no q) true e rest =
            rw (clears_one n d e)
            (front_same (size m) (part_of m) (part_of m) (part_of m + 512) (length_cleared n (size n) before.buffer)
            (cleared_apart n m (size n) before.buffer (λ p. q (sym p)) (clears_few n e)) (omega arith)
            (omega (arith, clears_few m on))
            ∙ rest (omega arith))
        go (no q) false e rest = rw (clears_none n d e) (rest (omega arith))
