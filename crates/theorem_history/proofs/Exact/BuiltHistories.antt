-- Histories built from their end, by a call in front: a post or a clock that is taken where things stand. Two kinds are built:
-- calls that lead to what is wanted, and calls in which a master is first shown at a given clock.
-- Assumes nothing.
use mathlib.Core.Path.{◌≡◌, refl, sym, ap, subst, ◌∙◌}
use mathlib.Core.Bool.{true, false}
use mathlib.Core.List.{List, [], ◌∷◌}
use mathlib.Core.Logic.{inr}
use Prim.Native.Nat.{ℕ, suc, ◌+◌}
use native.Mathlib.Omega.{arith}
use lib.ListN.{length, take}
use Rattle.description_board.specs.declared.Board.{Board}
use Rattle.description_board.specs.Items.{board_refusal}
use Rattle.description_board.specs.Legal.{Legal}
use Rattle.fabric_state.specs.Posting.{Request}
use Rattle.fabric_calls.specs.Calls.{World}
use Rattle.theorem_history.specs.Claim.{Call, Handed, next, after, History, answers, shows, any}
use Rattle.theorem_history.proofs.Histories.CallCases.{post_at, clock_at, with_post, with_clock, answer_of, post_next}
use Rattle.theorem_history.proofs.Histories.CallCases.{clock_next, clock_answered}
use Rattle.theorem_history.proofs.Histories.OnePost.{Taken}
use Rattle.theorem_history.proofs.Histories.Standing.{Standing}
use Rattle.theorem_history.proofs.Histories.Unrefused.{clock_free, post_free}

-- calls that lead from w to a world of which P holds
pub record Lead (b : Board) (P : World → Type 0) (w : World) : Type 0 where
  pub calls : List Call
  pub history : History b w calls
  pub end : P (after w calls)

-- calls from w with k clocks that do not show master m, and one more, which does
pub record ShownAfter (b : Board) (m k : ℕ) (w : World) : Type 0 where
  pub calls : List Call
  pub history : History b w calls
  pub count : length (answers calls) ≡ k + 1
  pub before : any (shows m) (take k (answers calls)) ≡ false
  pub then : any (shows m) (answers calls) ≡ true

-- a call in front, which is handed what stands and leaves u
in_front : (b : Board) (w u : World) (c : Call) (cs : List Call) → Handed b w c → next w c ≡ u → History b u cs
    → History b w (c ∷ cs)
unfolding History
in_front b w u c cs handed e h = (inr handed, rw e h)

lead_call : (b : Board) (P : World → Type 0) (w u : World) (c : Call) → Handed b w c → next w c ≡ u → Lead b P u → Lead b P w
unfolding after
lead_call b P w u c handed e l = record {
  calls = c ∷ l.calls;
  history = in_front b w u c l.calls handed e l.history;
  end = subst (λ (v : World). P (after v l.calls)) (sym e) l.end;
}

module _ (b : Board) (legal : Legal b) (ok : board_refusal b ≡ 0) where
  -- ---- calls that lead somewhere

  pub lead_here : {P : World → Type 0} {w : World} → P w → Lead b P w
  unfolding History after
  lead_here p = record { calls = []; history = tt; end = p }

  pub lead_post : {P : World → Type 0} (w : World) (q : Request) → Standing b w → Taken b w.state q
      → Lead b P (with_post w q) → Lead b P w
  unfolding Handed
  lead_post w q x t =
      lead_call b _ w (with_post w q) (post_at b w q) (refl, refl, refl) (post_next b w q (post_free b legal ok w x q t))

  pub lead_clock : {P : World → Type 0} (w : World) → Standing b w → Lead b P (with_clock b w) → Lead b P w
  unfolding Handed
  lead_clock w x =
      lead_call b _ w (with_clock b w) (clock_at b w) (refl, refl, refl) (clock_next b w (clock_free b legal ok w x))

  -- ---- calls until master m is shown

  pub shown_post : {m k : ℕ} (w : World) (q : Request) → Standing b w → Taken b w.state q
      → ShownAfter b m k (with_post w q) → ShownAfter b m k w
  unfolding Handed answers
  shown_post w q x t r =
      let e = post_next b w q (post_free b legal ok w x q t) in
      record {
        calls = post_at b w q ∷ r.calls;
        history = in_front b w (with_post w q) (post_at b w q) r.calls (refl, refl, refl) e r.history;
        count = r.count;
        before = r.before;
        then = r.then;
      }

  pub shown_clock : {m k : ℕ} (w : World) → Standing b w → shows m (answer_of b w) ≡ false
      → ShownAfter b m k (with_clock b w) → ShownAfter b m (suc k) w
  unfolding Handed any
  shown_clock w x e r =
      let f = clock_free b legal ok w x in
      let a = clock_answered b w f r.calls in
      record {
        calls = clock_at b w ∷ r.calls;
        history = in_front b w (with_clock b w) (clock_at b w) r.calls (refl, refl, refl) (clock_next b w f) r.history;
        count = rw a (omega (arith, r.count));
        before = rw (a, e) r.before;
        then = rw (a, e) r.then;
      }

  pub shown_last : {m : ℕ} (w : World) → Standing b w → shows m (answer_of b w) ≡ true → ShownAfter b m 0 w
  unfolding History Handed any answers
  shown_last {m} w x e =
      let f = clock_free b legal ok w x in
      let a = clock_answered b w f [] in
      record {
        calls = clock_at b w ∷ [];
        history = in_front b w (with_clock b w) (clock_at b w) [] (refl, refl, refl) (clock_next b w f) tt;
        count = ap length a;
        before = refl;
        then = ap (any (shows m)) a ∙ rw e;
      }
