-- No clock shows a write's access that has no lane.
-- Assumes nothing.
use mathlib.Core.Path.{◌≡◌, refl, sym, ◌∙◌}
use mathlib.Core.Bool.{Bool, true, false, not, ◌||◌}
use mathlib.Core.List.{List}
use mathlib.Core.Logic.{◌≢◌}
use Prim.Native.Nat.{ℕ, ◌≤◌, ◌<◌}
use native.Mathlib.Omega.{arith}
use lib.Dec.{eqb}
use lib.ListN.{length}
use borrow.Author.Tests.{eqb-true, not-false}
use Rattle.common_laws.proofs.TableLaws.{get_or_replicate_all}
use Rattle.common_laws.proofs.Tests.{passed}
use Rattle.description_board.specs.declared.Board.{Board}
use Rattle.description_board.specs.Records.{master_at, slave_at, is_native, memory_length}
use Rattle.description_board.specs.Items.{board_refusal}
use Rattle.description_board.specs.Legal.{Legal}
use Rattle.description_board.proofs.Accepted.{accepted_legal}
use Rattle.fabric_transfer.proofs.NumberLaws.{number_lanes}
use Rattle.fabric_transfer.proofs.AccessLaws.{write_slave_lanes}
use Rattle.fabric_transfer.specs.Bytes.{Store, buffer_length}
use Rattle.fabric_state.specs.declared.State.{State}
use Rattle.fabric_state.specs.declared.Line.{Line}
use Rattle.fabric_state.specs.Records.{no_line, transfer_at}
use Rattle.fabric_state.specs.Soundness.{sound}
use Rattle.fabric_state.specs.Control.{slot_after_grant, line_of, step_of}
use Rattle.fabric_state.proofs.Sound.{Sound}
use Rattle.fabric_state.proofs.SoundLaws.{sound_facts, grant_sound}
use Rattle.fabric_state.proofs.StateLaws.{line_after_lem}
use Rattle.fabric_state.proofs.StepLaws.{line_now, Outcome, rests, waiting, works, ends, outcome}
use Rattle.fabric_layout.specs.Layout.{state_in}
use Rattle.fabric_layout.proofs.StatePutLaws.{transfers_length, slots_length, lates_length}
use Rattle.fabric_calls.specs.Calls.{clock_refusal, clock}
use Rattle.fabric_calls.specs.LanesShown.{line_shown, LanesShown}
use Rattle.fabric_calls.proofs.PostLaws.{passed_number}

-- the line of a write has a lane
abbrev Laned : State → Line → Type 0
Laned st l = 1 ≤ l.phase → (transfer_at st l.owner).write ≡ true → l.lanes ≢ 0

none_laned : (st : State) → Laned st no_line
none_laned st h w = absurd (omega arith)

module _ (b : Board) (legal : Legal b) (st : State) (x : Sound b st) (s : ℕ) (below : s < b.slave_count)
    (sized : is_native (slave_at b s) ≡ false) where
  now_laned : (slot_after_grant b st s).serving ≡ true → (phase : ℕ) → Laned st (line_now b st s phase)
  unfolding line_of
  now_laned on phase h w z =
      let o = (slot_after_grant b st s).owner in
      let v = (grant_sound b st legal x s below).serving on in
      number_lanes (master_at b o) (slave_at b s) (transfer_at st o) w sized (slot_after_grant b st s).done v.done
      (sym (write_slave_lanes (master_at b o) (slave_at b s) (transfer_at st o) _ w) ∙ z)

  step_laned : Laned st (step_of b st s).line
  step_laned = go (outcome b st s)
    where
      go : Outcome b st s → Laned st (step_of b st s).line
      go (rests e q) = rw q (none_laned st)
      go (waiting e h q) = rw q (now_laned e 1)
      go (works e h l q) = rw q (now_laned e 2)
      go (ends e h l q) = rw q (now_laned e 2)

module _ (b : Board) (before : List ℕ) (d : Store) where
  -- a clock that is not refused is of an accepted board and a state that breaks no rule
  taken_parts : clock_refusal b (state_in before) d ≡ 0 → (board_refusal b ≡ 0) × (sound b (state_in before) ≡ true)
  unfolding clock_refusal
  taken_parts e =
      let memory = eqb (length d.memory) (memory_length b) in
      let buffer = eqb (length d.buffer) buffer_length in
      let p = passed_number (board_refusal b) _ e in
      let q = passed (not memory || not buffer) 7 _ p.1 in
      let r = passed (not (sound b (state_in before))) 8 _ q.1 in
      (p.0, not-false _ r.0)

  pub lanes_shown : LanesShown b before d
  unfolding clock
  lanes_shown = record { some = λ s below sized. go s below sized (eqb (clock_refusal b (state_in before) d) 0) refl }
    where
      go : (s : ℕ) → s < b.slave_count → is_native (slave_at b s) ≡ false → (c : Bool)
          → eqb (clock_refusal b (state_in before) d) 0 ≡ c → Laned (state_in before) (line_shown b before d s)
      go s below sized false e = rw (e, get_or_replicate_all 16 s no_line) (none_laned (state_in before))
      go s below sized true e =
          let p = taken_parts (eqb-true _ _ e) in
          let legal = accepted_legal b p.0 in
          let x = sound_facts b (state_in before) (transfers_length before) (slots_length before) (lates_length before)
          legal.few_slaves p.1 in
          rw (e, line_after_lem b (state_in before) s below legal.few_slaves)
          (step_laned b legal (state_in before) x s below sized)
