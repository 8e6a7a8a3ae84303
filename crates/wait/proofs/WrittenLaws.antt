-- The writer's text of an accepted board reads to a board with the same figures: entries behind the counts decide nothing.
-- Assumes nothing.
use mathlib.Core.Path.{◌≡◌, refl, ap, ◌∙◌}
use mathlib.Core.Bool.{Bool, true, false, cond, not, ◌&&◌}
use Prim.Native.Nat.{ℕ, ◌+◌, ◌*◌, ◌<◌}
use native.Mathlib.Omega.{arith}
use lib.Dec.{leb, ltb, eqb}
use borrow.Author.Tests.{ltb-true, leb-false, eqb-true}
use Rattle.common_laws.proofs.FillLaws.{sum_same}
use Rattle.description_board.specs.declared.Board.{Board}
use Rattle.description_board.specs.Records.{slave_at, shares_at, connected}
use Rattle.description_board.specs.Items.{board_refusal}
use Rattle.description_board.specs.Rebuilt.{trimmed}
use Rattle.description_board.specs.Legal.{Legal}
use Rattle.description_board.proofs.Accepted.{trimmed_master, trimmed_slave, trimmed_share, accepted_legal}
use Rattle.description_board.proofs.Rebuilt.{trimmed_check}
use Rattle.description.specs.declared.Parsed.{Parsed}
use Rattle.description.specs.Reader.{read_text}
use Rattle.description.specs.Writer.{write_text}
use Rattle.description.proofs.Trip.{read_written}
use Rattle.wait_turns.specs.Waits.{longest_access, single_access, other_turn, turns_of, quoted_wait, serve_of}
use Rattle.wait.specs.Answers.{pair_refusal}
use Rattle.wait.specs.Calls.{Quoted, quote_refusal, quote_of}
use Rattle.wait.proofs.LookUpLaws.{pair_master, pair_known}

module _ (b : Board) (legal : Legal b) where
  pub masters_trimmed : (trimmed b).master_count ≡ b.master_count
  unfolding trimmed
  masters_trimmed = refl

  shares_trimmed : (m s : ℕ) → m < b.master_count → s < b.slave_count → shares_at (trimmed b) m s ≡ shares_at b m s
  shares_trimmed m s hm hs = trimmed_share b (16 * m + s) (omega (arith, legal.few_masters, legal.few_slaves))

  pub connected_trimmed : (m s : ℕ) → m < b.master_count → connected (trimmed b) m s ≡ connected b m s
  unfolding connected trimmed
  connected_trimmed m s hm = go (ltb s b.slave_count) refl
    where
      go : (t : Bool) → ltb s b.slave_count ≡ t
          → (t && ltb 0 (shares_at (trimmed b) m s)) ≡ (t && ltb 0 (shares_at b m s))
      go true e = rw (shares_trimmed m s hm (ltb-true s b.slave_count e))
      go false e = refl

  module _ (s : ℕ) (hs : s < b.slave_count) where
    turn_trimmed : (a v m k : ℕ) → k < b.master_count → other_turn (trimmed b) a v m s k ≡ other_turn b a v m s k
    unfolding other_turn
    turn_trimmed a v m k hk =
        rw (
          connected_trimmed k s hk,
          trimmed_master b legal.few_masters k hk,
          trimmed_slave b legal.few_slaves s hs,
          shares_trimmed k s hk hs,
        )

    pub wait_trimmed : (m : ℕ) → quoted_wait (trimmed b) m s ≡ quoted_wait b m s
    unfolding quoted_wait turns_of trimmed
    wait_trimmed m =
        rw (trimmed_slave b legal.few_slaves s hs)
        (sum_same _ _ b.master_count (turn_trimmed (single_access (slave_at b s)) (longest_access (slave_at b s)) m))

    pub serve_trimmed : (m : ℕ) → m < b.master_count → serve_of (trimmed b) m s ≡ serve_of b m s
    unfolding serve_of
    serve_trimmed m hm = rw (trimmed_master b legal.few_masters m hm, trimmed_slave b legal.few_slaves s hs)

  pair_trimmed : (m s : ℕ) → pair_refusal (trimmed b) m s ≡ pair_refusal b m s
  unfolding pair_refusal trimmed
  pair_trimmed m s = go (leb b.master_count m) refl
    where
      go : (t : Bool) → leb b.master_count m ≡ t
          → cond {A = ℕ} t 11 (cond (not (connected (trimmed b) m s)) 16 0) ≡ cond t 11 (cond (not (connected b m s)) 16 0)
      go true e = refl
      go false e = rw (connected_trimmed m s (leb-false b.master_count m e))

module _ (b : Board) (ok : board_refusal b ≡ 0) where
  abbrev legal : Legal b
  legal = accepted_legal b ok

  refusal_trimmed : (m s : ℕ) → quote_refusal (trimmed b) m s ≡ quote_refusal b m s
  unfolding quote_refusal
  refusal_trimmed m s = rw (trimmed_check b ok, ok, pair_trimmed b legal m s)

  pair_taken : (m s : ℕ) → quote_refusal b m s ≡ 0 → pair_refusal b m s ≡ 0
  unfolding quote_refusal
  pair_taken m s e = rw ok at e

  quote_trimmed : (m s : ℕ) → quote_of (trimmed b) m s ≡ quote_of b m s
  unfolding quote_of
  quote_trimmed m s = rw (refusal_trimmed m s) (go (eqb (quote_refusal b m s) 0) refl)
    where
      go : (t : Bool) → eqb (quote_refusal b m s) 0 ≡ t
          → cond t (record { number = 0; wait = quoted_wait (trimmed b) m s; serve = serve_of (trimmed b) m s })
          (record { number = quote_refusal b m s; wait = 0; serve = 0 })
          ≡ cond {A = Quoted} t (record { number = 0; wait = quoted_wait b m s; serve = serve_of b m s })
          (record { number = quote_refusal b m s; wait = 0; serve = 0 })
      go true e =
          let none = pair_taken m s (eqb-true (quote_refusal b m s) 0 e) in
          let hs = pair_known b m s none in
          rw (wait_trimmed b legal s hs m, serve_trimmed b legal s hs m (pair_master b m s none))
      go false e = refl

  -- the board that the writer's text reads to
  pub written_board : (read_text (write_text b)).board ≡ trimmed b
  written_board = ap (λ (r : Parsed). r.board) (read_written b ok)

  -- has the same figures, and the same refusals
  pub quote_written : (m s : ℕ) → quote_of (read_text (write_text b)).board m s ≡ quote_of b m s
  quote_written m s = ap (λ (c : Board). quote_of c m s) written_board ∙ quote_trimmed m s
