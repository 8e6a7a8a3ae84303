-- The mask of who holds an unmapped transfer (rule 4.17): the loop that makes it, and the empty mask of a board without the line `default`.
-- Assumes nothing.
use mathlib.Core.Path.{◌≡◌, refl, ap, ◌∙◌}
use mathlib.Core.Bool.{Bool, true, false, cond, ◌&&◌}
use mathlib.Core.List.{List}
use Prim.Native.Nat.{ℕ, ◌+◌, ◌^◌, ◌≤◌, ◌<◌}
use native.Mathlib.Numerals.{add-one}
use native.Mathlib.Omega.{arith}
use lib.Dec.{eqb}
use lib.ListN.{get_or}
use lib.Pow.{pow_mono}
use Rattle.common_laws.specs.Lists.{sum}
use Rattle.common_laws.proofs.TableLaws.{get_or_table, every_at, mask, mask_lt}
use Rattle.common_laws.proofs.FillLaws.{sum_same}
use Rattle.description_board.specs.declared.Board.{Board}
use Rattle.fabric_transfer.specs.declared.Transfer.{Transfer}
use Rattle.fabric_transfer.specs.Decoding.{target_of}
use Rattle.fabric_state.specs.declared.State.{State}
use Rattle.fabric_state.specs.Records.{transfer_at, late_at}
use Rattle.fabric_state.specs.Posting.{unmapped, is_unmapped}
use Rattle.fabric_state.specs.Soundness.{unmapped_at, sound_transfer}
use Rattle.fabric_state.proofs.RequestLaws.{mapped_idle, mapped_of, taken_mapped}
use Rattle.fabric_state.proofs.SoundLaws.{HeldSound, held_facts}
use Rattle.fabric_check.specs.Code.Targets.{held_target, target_in, targets_in, unmapped_mask}
use Rattle.fabric_check.specs.Code.Checks.{Decoded}

module _ (b : Board) (st : State) (targets : List ℕ) (decoded : Decoded b st targets) where
  -- the code has read the transfer, its target and the count of slaves
  unmapped_read : (m : ℕ) → m < 8 → {t : Transfer} {count : ℕ} → t ≡ transfer_at st m → count ≡ b.slave_count
      → (t.held && eqb (get_or targets m 0) count) ≡ unmapped_at b st m
  unfolding unmapped_at is_unmapped unmapped targets_in target_in held_target
  unmapped_read m h e f =
      rw (e, f, decoded.targets, get_or_table (target_in b st.transfers) 8 0 m h) (go (transfer_at st m).held)
    where
      go : (c : Bool)
          → (c && eqb (cond c (target_of b m (transfer_at st m).address) b.slave_count) b.slave_count)
          ≡ (c && eqb (target_of b m (transfer_at st m).address) b.slave_count)
      go true = refl
      go false = refl

  -- one master more
  module _ (m : ℕ) (h : m < 8) {t : Transfer} {count before weight : ℕ} (et : t ≡ transfer_at st m) (ec : count ≡ b.slave_count)
      (e : before ≡ mask (unmapped_at b st) m) (f : weight ≡ cond (t.held && eqb (get_or targets m 0) count) (2 ^ m) 0) where
    pub unmapped_next : before + weight ≡ mask (unmapped_at b st) (m + 1)
    unfolding sum
    unmapped_next = rw (add-one m, e, f, unmapped_read m h et ec)

    pub unmapped_fits : before + weight < 256
    unmapped_fits =
        let q : m + 1 ≤ 8 = omega arith in
        let small : 2 ^ (m + 1) ≤ 2 ^ 8 = pow_mono q in
        omega (arith, unmapped_next, mask_lt (unmapped_at b st) (m + 1), small)

  pub unmapped_all : (m : ℕ) {before : ℕ} → m ≡ 8 → before ≡ mask (unmapped_at b st) m → before ≡ unmapped_mask b st
  unfolding unmapped_mask
  unmapped_all m e f = f ∙ ap (mask (unmapped_at b st)) e

  -- without the line `default` no transfer that breaks no rule is unmapped
  each_mapped : b.default_line ≡ false → (m : ℕ) → m < 8 → unmapped_at b st m ≡ false
  unfolding sound_transfer
  each_mapped none m h = go (transfer_at st m).held refl
    where
      sound : HeldSound b m (transfer_at st m) (late_at st m)
      sound = held_facts b m (transfer_at st m) (late_at st m) (every_at (sound_transfer b st) 8 decoded.transfers m h)

      go : (c : Bool) → (transfer_at st m).held ≡ c → unmapped_at b st m ≡ false
      go true on = mapped_of b st m (taken_mapped b m (transfer_at st m) none (sound.holds on).1)
      go false off = mapped_idle b st m off

  pub unmapped_none : b.default_line ≡ false → 0 ≡ unmapped_mask b st
  unfolding unmapped_mask sum
  unmapped_none none = sum_same (λ m. 0) (λ m. cond (unmapped_at b st m) (2 ^ m) 0) 8 (λ m h. rw (each_mapped none m h))
