-- The loop of a run of clocks: where it stands between two clocks, and its ends.
-- Assumes nothing.
use mathlib.Core.Path.{◌≡◌, refl, sym, ap, subst₂, ◌∙◌}
use mathlib.Core.List.{List}
use Prim.Native.Nat.{ℕ, ◌+◌, ◌-◌, ◌≤◌, ◌<◌}
use native.Mathlib.Nat.{sub-zero}
use native.Mathlib.Omega.{arith}
use lib.ListN.{length, replicate}
use borrow.Author.Tests.{ne_eqb}
use Rattle.common_laws.specs.Lists.{table}
use Rattle.description_board.specs.declared.Board.{Board}
use Rattle.description_board.specs.Records.{memory_length}
use Rattle.fabric_transfer.specs.Bytes.{Store, buffer_length}
use Rattle.fabric_state.specs.declared.State.{State}
use Rattle.fabric_state.specs.Records.{no_line}
use Rattle.fabric_state.specs.Control.{responses_of}
use Rattle.fabric_layout.specs.Layout.{state_in, lines_in}
use Rattle.fabric_layout.specs.Numbers.{Marks}
use Rattle.fabric_layout.specs.Code.Puts.{responses_for}
use Rattle.fabric_layout.proofs.MarkLaws.{marks_same, marks_then}
use Rattle.fabric_layout.proofs.StatePutLaws.{transfers_length, slots_length, lates_length}
use Rattle.fabric_check.specs.Code.Targets.{targets_in, request_mask, unmapped_mask}
use Rattle.fabric_cycle.specs.Code.Cycles.{Passes, Clocks as Cycled}
use Rattle.fabric_cycle.proofs.AgainLaws.{same_requests, same_unmapped}
use Rattle.fabric_calls.specs.Calls.{clock_refusal}
use Rattle.fabric_calls.specs.Running.{standing, clock_on, run}
use Rattle.fabric_calls.specs.Lent.{Runs}
use Rattle.fabric_calls.proofs.ClockLaws.{exact_lengths}
use Rattle.fabric.proofs.ResponseLaws.{responses_are, responses_zero}
use Rattle.fabric_calls.proofs.RunOfClocks.{Sized, reached, accepted_board, keeps_rules}
use Rattle.fabric_calls.proofs.RunOfClocks.{refusal_again, on_next, on_spent, on_finished}

pub sized : (l : List ℕ) → Sized (state_in l)
sized l = record { transfers = transfers_length l; slots = slots_length l; lates = lates_length l }

-- a run of clocks that is refused
pub run_refused : (b : Board) (most : ℕ) (before responses lines : List ℕ) (d : Store) {n : ℕ}
    → n ≡ clock_refusal b (state_in before) d → (n ≡ 0 → ⊥) → responses ≡ replicate 8 0 → lines_in lines ≡ replicate 16 no_line
    → Runs b most before before responses lines d d n 0 0
unfolding run
run_refused b most before responses lines d {n} e h r q =
    let no = ne_eqb (clock_refusal b (state_in before) d) 0 (λ z. h (e ∙ z)) in
    record { answer = rw (no, e, r, q); marks = marks_same before; kept = λ _. refl }

-- between two clocks of one that is not refused, none of which finished a master: so many of the most have passed
pub record Passing (b : Board) (most : ℕ) (before : List ℕ) (d : Store) (requests : List ℕ) (unmapped : ℕ) (now lines : List ℕ)
    (e : Store) (passed : ℕ) : Type 0 where
  pub few : passed ≤ most
  pub free : clock_refusal b (state_in now) e ≡ 0
  pub asked : requests ≡ table (request_mask (targets_in b (state_in now).transfers)) 16
  pub held : unmapped ≡ unmapped_mask b (state_in now)
  pub marks : Marks before now
  pub goes : clock_on b most (standing 0 (record { state = state_in before; store = d }))
      ≡ clock_on b (most - passed) (reached passed 0 (replicate 8 0) (lines_in lines) (state_in now) e)

module _ (b : Board) (most : ℕ) (before : List ℕ) (d : Store) (ok : clock_refusal b (state_in before) d ≡ 0) where
  pub passing_begin : (requests lines : List ℕ) {unmapped : ℕ}
      → requests ≡ table (request_mask (targets_in b (state_in before).transfers)) 16 → unmapped ≡ unmapped_mask b (state_in before)
      → lines_in lines ≡ replicate 16 no_line → Passing b most before d requests unmapped before lines d 0
  passing_begin requests lines q u shown = record {
    few = omega arith;
    free = ok;
    asked = q;
    held = u;
    marks = marks_same before;
    goes = rw (sub-zero, shown);
  }

  -- its answer by where it has come to
  ran : {after responses lines : List ℕ} {e : Store} (n mask : ℕ)
      → clock_on b most (standing 0 (record { state = state_in before; store = d }))
      ≡ reached n mask responses (lines_in lines) (state_in after) e → Marks before after
      → Runs b most before after responses lines d e 0 n mask
  unfolding run
  ran n mask f k = record { answer = sym f ∙ sym (rw ok); marks = k; kept = λ h. absurd (h refl) }

  module _ {requests now lines : List ℕ} {unmapped : ℕ} {e : Store} {passed : ℕ}
      (p : Passing b most before d requests unmapped now lines e passed) where
    pub passing_accepts : Passes b (state_in now)
    passing_accepts = record {
      board = accepted_board b (state_in now) e p.free;
      state = keeps_rules b (state_in now) e p.free;
    }

    pub passing_lengths : (length e.memory ≡ memory_length b) × (length e.buffer ≡ buffer_length)
    passing_lengths = exact_lengths b (state_in now) e p.free

    pub passing_spent : passed ≡ most → {responses : List ℕ} → responses ≡ replicate 8 0
        → Runs b most before now responses lines d e 0 most 0
    passing_spent z r =
        let none : most - passed ≡ 0 = omega (arith, z) in
        ran most 0
        (p.goes ∙ ap (λ (k : ℕ). clock_on b k (reached passed 0 (replicate 8 0) (lines_in lines) (state_in now) e)) none
        ∙ on_spent b _
        ∙ ap (λ (k : ℕ). reached k 0 (replicate 8 0) (lines_in lines) (state_in now) e) z
        ∙ ap (λ (l : List ℕ). reached most 0 l (lines_in lines) (state_in now) e) (sym r))
        p.marks

    module _ (some : passed < most) (then shown : List ℕ) {f : Store} {mask : ℕ}
        (x : Cycled b (state_in now) (state_in then) (lines_in shown) mask e f × Marks now then) where
      abbrev c : Cycled b (state_in now) (state_in then) (lines_in shown) mask e f
      c = x.0

      -- one clock more
      once : clock_on b most (standing 0 (record { state = state_in before; store = d }))
          ≡ clock_on b (most - (passed + 1))
          (reached (passed + 1) mask (responses_of b (state_in now)) (lines_in shown) (state_in then) f)
      once =
          let back : most - (passed + 1) + 1 ≡ most - passed = omega (arith, some) in
          p.goes
          ∙ ap (λ (k : ℕ). clock_on b k (reached passed 0 (replicate 8 0) (lines_in lines) (state_in now) e)) (sym back)
          ∙ on_next b (most - (passed + 1)) passed (replicate 8 0) (lines_in lines) (state_in now) e p.free
          ∙ rw (c.state, c.lines, c.mask, c.store)

      pub passing_next : mask ≡ 0 → Passing b most before d requests unmapped then shown f (passed + 1)
      passing_next z = record {
        few = omega (arith, some);
        free =
            subst₂ (λ (u : State) (v : Store). clock_refusal b u v ≡ 0) (sym c.state) (sym c.store)
            (refusal_again b (state_in now) e p.free (sized now));
        asked = same_requests b (state_in now) (state_in then) (lines_in shown) mask e f (transfers_length now) c z p.asked;
        held = same_unmapped b (state_in now) (state_in then) (lines_in shown) mask e f (transfers_length now) c z p.held;
        marks = marks_then p.marks x.1;
        goes = once ∙ rw (z, responses_zero b (state_in now) (sym c.mask ∙ z));
      }

      pub passing_finished : (mask ≡ 0 → ⊥) → {responses : List ℕ} → responses ≡ responses_for unmapped
          → Runs b most before then responses shown d f 0 (passed + 1) mask
      passing_finished h r =
          let are = responses_are b (state_in now) p.held r in
          ran (passed + 1) mask (once ∙ on_finished b (most - (passed + 1)) _ h ∙ rw are) (marks_then p.marks x.1)
