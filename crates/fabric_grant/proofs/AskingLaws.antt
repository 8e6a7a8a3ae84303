-- Rule 1 (rules 4.3 to 4.7) at one slave: what each path of the code gives.
-- Assumes nothing.
use mathlib.Core.Path.{◌≡◌, refl, sym, ◌∙◌}
use mathlib.Core.Bool.{Bool, true, false, true≢false}
use Prim.Native.Nat.{ℕ, ◌<◌}
use lib.Dec.{ltb}
use Rattle.std.specs.Prelude.{Option, None}
use borrow.Author.Tests.{ltb-true, ltb-false}
use Rattle.common_laws.specs.Bits.{bit}
use Rattle.common_laws.proofs.BitLaws.{bit_above}
use Rattle.description_board.specs.declared.Board.{Board}
use Rattle.description_board.specs.Records.{shares_at}
use Rattle.fabric_arbiter.specs.declared.Arbiter.{Arbiter}
use Rattle.fabric_arbiter.specs.declared.Winner.{Winner}
use Rattle.fabric_arbiter.specs.declared.Winner.TheVariants.{Again, First, NoOne}
use Rattle.fabric_arbiter.specs.Code.Winning.{winner_of, grant_by}
use Rattle.fabric_arbiter.proofs.GrantLaws.{by_none, again_wins, first_wins, none_wins}
use Rattle.fabric_arbiter.proofs.OrderLaws.{winner_again, winner_first}
use Rattle.fabric_state.specs.declared.Slot.{Slot}
use Rattle.fabric_state.specs.declared.State.{State}
use Rattle.fabric_state.specs.Records.{transfer_at, slot_at, arbiter_of}
use Rattle.fabric_state.specs.Control.{slot_by, slot_granted}
use Rattle.fabric_grant.specs.declared.Arbitrated.{Arbitrated}
use Rattle.fabric_grant.specs.Code.Asking.{grant_chosen, arbitrated, slot_asked}

-- ---- the choice

-- a mask of 8 bits names no master above
bit_low : (mask m : ℕ) → mask < 256 → bit mask m ≡ true → m < 8
bit_low mask m h e = go (ltb m 8) refl
  where
    go : (c : Bool) → ltb m 8 ≡ c → m < 8
    go true q = ltb-true m 8 q
    go false q = absurd (true≢false (sym e ∙ bit_above 8 mask m h (ltb-false m 8 q)))

-- so the winner by such a mask is one of 8 masters
module _ (mask : ℕ) (small : mask < 256) (n : ℕ) (a : Arbiter) {w : Winner} (won : w ≡ winner_of n (bit mask) a) where
  pub again_low : w ≡ Again → a.owner < 8
  again_low q = bit_low mask a.owner small (winner_again n (bit mask) a (sym won ∙ q))

  pub first_low : (m : ℕ) → w ≡ First m → m < 8
  first_low m q = bit_low mask m small (winner_first n (bit mask) a m (sym won ∙ q)).0

-- the winner w among n masters, on the arbiter a: its grant g
module _ (a : Arbiter) (b : Board) (st : State) (s mask : ℕ) {n : ℕ} {w : Winner} (masters : n ≡ b.master_count)
    (won : w ≡ winner_of n (bit mask) a) where
  abbrev shares : ℕ → ℕ
  shares m = shares_at b m s

  abbrev beats : ℕ → ℕ
  beats m = (transfer_at st m).beats

  of_board : w ≡ winner_of b.master_count (bit mask) a
  of_board = rw (← masters) won

  pub grant_again : (y : ℕ) {x : ℕ} {g : Option Arbiter} → w ≡ Again → x ≡ beats a.owner → g ≡ grant_by a w y x
      → g ≡ grant_chosen a b st s mask
  unfolding grant_chosen
  grant_again y {x} q f e = e ∙ again_wins b.master_count (bit mask) shares beats a of_board y x q f

  pub grant_first : (m : ℕ) {y x : ℕ} {g : Option Arbiter} → w ≡ First m → y ≡ shares m → x ≡ beats m → g ≡ grant_by a (First m) y x
      → g ≡ grant_chosen a b st s mask
  unfolding grant_chosen
  grant_first m {y} {x} q f k e =
      e ∙ rw (← q) (first_wins b.master_count (bit mask) shares beats a of_board m y x q f k)

  pub grant_none : w ≡ NoOne → None ≡ grant_chosen a b st s mask
  unfolding grant_chosen
  grant_none q = by_none a w 0 0 q ∙ none_wins b.master_count (bit mask) shares beats a of_board 0 0 q

-- ---- the slot

module _ (b : Board) (st : State) (s mask : ℕ) {x : Slot} (own : x ≡ slot_at st s) where
  pub asked_serving : x.serving ≡ true → x ≡ slot_asked b st s mask
  unfolding slot_asked
  asked_serving on = own ∙ rw (rw own at on)

  -- the arbiter a, what rule 1 makes of it, the slot r
  pub asked_free : {a : Arbiter} {y : Arbitrated} {r : Slot} → x.serving ≡ false → a ≡ arbiter_of x
      → y ≡ arbitrated a (grant_chosen a b st s mask) → r ≡ slot_by x y.arbiter y.grant → r ≡ slot_asked b st s mask
  unfolding slot_asked arbitrated slot_granted
  asked_free off e f q = q ∙ rw (f, e, own, rw own at off)
