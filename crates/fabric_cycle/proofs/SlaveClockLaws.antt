-- One slave's clock: what each path of the code gives.
-- Assumes nothing.
use mathlib.Core.Path.{◌≡◌, ◌∙◌}
use mathlib.Core.Bool.{true, false, cond, ◌&&◌}
use mathlib.Core.List.{List}
use Prim.Native.Nat.{ℕ, ◌^◌}
use lib.ListN.{set}
use lib.Dec.{eqb}
use Rattle.description_board.specs.declared.Master.{Master}
use Rattle.description_board.specs.Records.{Slave}
use Rattle.description_board.specs.declared.Board.{Board}
use Rattle.description_board.specs.Records.{master_at, slave_at}
use Rattle.fabric_transfer.specs.declared.Transfer.{Transfer}
use Rattle.fabric_transfer.specs.Accesses.{latency_of}
use Rattle.fabric_transfer.specs.Bytes.{Store}
use Rattle.fabric_state.specs.declared.Slot.{Slot}
use Rattle.fabric_state.specs.declared.State.{State}
use Rattle.fabric_state.specs.declared.Line.{Line}
use Rattle.fabric_state.specs.declared.Step.{Step}
use Rattle.fabric_state.specs.Records.{no_line, transfer_at}
use Rattle.fabric_layout.specs.Code.Puts.{with_slot}
use Rattle.fabric_slave.specs.Code.Serving.{step_from, Serves, Served}
use Rattle.fabric_slave.proofs.ServeLaws.{from_resting, carried_resting}
use Rattle.fabric_cycle.specs.Code.SlaveClocks.{step_at, carried_at, latency_behind}
use Rattle.fabric_cycle.specs.Code.SlaveClocks.{ended_transfer, state_stepped, Serving, SlaveClocked}

module _ (b : Board) (before after : State) (s : ℕ) (x : Slot) (start : ℕ) (lines shown : List Line) (d : Store) where
  -- a slave that rests
  pub stepped_resting : x.serving ≡ false → after ≡ with_slot before s x → shown ≡ set lines s no_line
      → SlaveClocked b before after s x start lines shown 0 d d
  unfolding state_stepped step_at carried_at ended_transfer
  stepped_resting off e f =
      let ma = master_at b x.owner in
      let t = transfer_at before x.owner in
      let q : ◌≡◌ {A = Step} (record { slot = x; line = no_line; last = false }) (step_from ma (slave_at b s) t x)
      = from_resting ma (slave_at b s) t x off in
      record {
        state = e ∙ rw (← q);
        shows = f ∙ rw (← q);
        weight = rw (← q);
        store = carried_resting ma (slave_at b s) t x start d off;
      }

-- a slave that serves, by what was read of it
pub serves_as : (x : Slot) (start : ℕ) (d : Store) {ma na : Master} {sl tl : Slave} {t v : Transfer} → ma ≡ na → sl ≡ tl → t ≡ v
    → Serves na tl v x start d → Serves ma sl t x start d
serves_as x start d e f g p = rw (e, f, g) p

module _ (b : Board) (before : State) (s : ℕ) (x : Slot) (start : ℕ) (d : Store) {ma : Master} {sl : Slave} {t : Transfer}
    (e : ma ≡ master_at b x.owner) (f : sl ≡ slave_at b s) (g : t ≡ transfer_at before x.owner) where
  pub stepped_serving : (mid after : State) (lines shown : List Line) (y : Step) {r : ℕ} (c : Store)
      → Served ma sl t x start d c y
      → mid ≡ with_slot before s y.slot → shown ≡ set lines s y.line → {n : ℕ}
      → n ≡ latency_of sl t
      → after ≡ ended_transfer mid x.owner y.last n → r ≡ cond (y.last && eqb n 0) (2 ^ x.owner) 0
      → SlaveClocked b before after s x start lines shown r d c
  unfolding state_stepped step_at carried_at latency_behind
  stepped_serving mid after lines shown y c p u v k w z =
      let q : y ≡ step_from (master_at b x.owner) (slave_at b s) (transfer_at before x.owner) x
      = p.step ∙ rw (e, f, g) in
      record {
        state = w ∙ rw (u, q, k, f, g);
        shows = v ∙ rw q;
        weight = z ∙ rw (q, k, f, g);
        store = p.store ∙ rw (e, f, g);
      }

-- the slot x that rule 1 gave
module _ (b : Board) (st : State) (s start : ℕ) {x y : Slot} (e : x ≡ y) where
  pub serving_as : (d : Store) → (y.serving ≡ true → Serving b st s y start d) → x.serving ≡ true → Serving b st s x start d
  serving_as d p on = rw e (p (rw e at on))

  pub stepped_as : (after : State) (lines shown : List Line) (r : ℕ) (c d : Store)
      → SlaveClocked b st after s x start lines shown r c d
      → SlaveClocked b st after s y start lines shown r c d
  stepped_as after lines shown r c d p = rw e at p
