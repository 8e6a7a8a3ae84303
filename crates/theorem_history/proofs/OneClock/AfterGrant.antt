-- A slave after the grant of a clock (rules 4.3 to 4.7), by cases: it goes on serving, begins to serve, or nobody is granted.
-- Assumes nothing.
use mathlib.Core.Path.{◌≡◌, refl, ap, ◌∙◌}
use mathlib.Core.Bool.{Bool, true, false}
use Prim.Native.Nat.{ℕ}
use Rattle.std.specs.Prelude.{Option, Some, None}
use Rattle.description_board.specs.declared.Board.{Board}
use Rattle.description_board.specs.Records.{master_at, slave_at}
use Rattle.fabric_transfer.specs.Accesses.{own_length}
use Rattle.fabric_arbiter.specs.declared.Arbiter.{Arbiter}
use Rattle.fabric_arbiter.specs.Granting.{grant, arbiter_after}
use Rattle.fabric_state.specs.declared.Slot.{Slot}
use Rattle.fabric_state.specs.declared.State.{State}
use Rattle.fabric_state.specs.Records.{transfer_at, slot_at}
use Rattle.fabric_state.specs.Control.{grant_at, slot_by, slot_granted, slot_after_grant}
use Rattle.fabric_state.proofs.CycleLaws.{left_of, left_whole}
use Rattle.fabric_state.proofs.StepLaws.{grant_serving, grant_given}

-- how long the transfer of master j lasts at slave s
abbrev pub long_at : Board → State → ℕ → ℕ → ℕ
long_at b st s j = own_length (master_at b j) (slave_at b s) (transfer_at st j)

-- the clocks left of what slave s serves: where its slot is y, as it stands, and after the grant
abbrev pub left_in : Board → State → ℕ → Slot → ℕ
left_in b st s y = left_of (master_at b y.owner) (slave_at b s) (transfer_at st y.owner) y

abbrev pub left_at : Board → State → ℕ → ℕ
left_at b st s = left_in b st s (slot_at st s)

abbrev pub left_now : Board → State → ℕ → ℕ
left_now b st s = left_in b st s (slot_after_grant b st s)

-- slave s serves master m in this clock
pub record ServesNow (b : Board) (st : State) (s m : ℕ) : Type 0 where
  pub on : (slot_after_grant b st s).serving ≡ true
  pub owner : (slot_after_grant b st s).owner ≡ m

-- this clock grants slave s to `master`, with `grants` remaining: all of the transfer is left
pub record Begins (b : Board) (st : State) (s : ℕ) : Type 0 where
  pub rested : (slot_at st s).serving ≡ false
  pub master : ℕ
  pub grants : ℕ
  pub given : grant_at b st s ≡ grant master grants
  pub on : (slot_after_grant b st s).serving ≡ true
  pub owner : (slot_after_grant b st s).owner ≡ master
  pub remaining : (slot_after_grant b st s).remaining ≡ grants
  pub done : (slot_after_grant b st s).done ≡ 0
  pub left : left_now b st s ≡ long_at b st s master

pub data AfterGrant (b : Board) (st : State) (s : ℕ) : Type 0 where
  goes_on : (slot_at st s).serving ≡ true → slot_after_grant b st s ≡ slot_at st s → AfterGrant b st s
  begins : Begins b st s → AfterGrant b st s
  silent : (slot_at st s).serving ≡ false → grant_at b st s ≡ None → (slot_after_grant b st s).serving ≡ false
      → (slot_after_grant b st s).remaining ≡ 0 → AfterGrant b st s

pub after_grant : (b : Board) (st : State) (s : ℕ) → AfterGrant b st s
unfolding slot_granted slot_by arbiter_after
after_grant b st s = go (slot_at st s).serving refl
  where
    by : (slot_at st s).serving ≡ false → (g : Option Arbiter) → grant_at b st s ≡ g → AfterGrant b st s
    by off (Some g) e =
        let x : slot_after_grant b st s ≡ record { owner = g.owner; remaining = g.remaining; serving = true; done = 0; waited = 0 } =
        grant_given b st s off ∙ ap (slot_granted (slot_at st s)) e in
        begins
        (record {
          rested = off;
          master = g.owner;
          grants = g.remaining;
          given = e;
          on = ap (λ (y : Slot). y.serving) x;
          owner = ap (λ (y : Slot). y.owner) x;
          remaining = ap (λ (y : Slot). y.remaining) x;
          done = ap (λ (y : Slot). y.done) x;
          left = ap (left_in b st s) x ∙ left_whole (master_at b g.owner) (slave_at b s) (transfer_at st g.owner) _ refl refl refl;
        })
    by off None e =
        let x = grant_given b st s off ∙ ap (slot_granted (slot_at st s)) e in
        silent off e (ap (λ (y : Slot). y.serving) x) (ap (λ (y : Slot). y.remaining) x)

    go : (c : Bool) → (slot_at st s).serving ≡ c → AfterGrant b st s
    go true e = goes_on e (grant_serving b st s e)
    go false e = by e (grant_at b st s) refl
