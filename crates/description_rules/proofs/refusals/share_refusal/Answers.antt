-- `description_rules::refusals::share_refusal` meets its contract. Each way out answers the definition's tests in their order.
-- Assumes nothing.
use mathlib.Core.Path.{◌≡◌}
use mathlib.Core.Bool.{Bool, true, false, cond, ◌||◌}
use Prim.Native.Nat.{ℕ, ◌≤◌, ◌<◌}
use native.Mathlib.Omega.{arith}
use lib.Dec.{leb, ltb, eqb}
use borrow.Author.Tests.{le-leb, lt-leb, lt-ltb, le-ltb}
use Rattle.description_board.specs.declared.Board.{Board}
use Rattle.description_board.specs.Rules.{too_narrow, pair_rank, share_refusal}
use Rattle.description_board.specs.Records.{master_at, slave_at, shares_at}
use Rattle.description_layout.specs.Layout.{board_in}
use Rattle.description_rules.proofs.refusals.share_refusal.Goals.{Else-from-m, Else-share_or_none-gt0, Else-shares, Else-from-s, Else-too_narrow}
use Rattle.description_rules.proofs.refusals.share_refusal.Goals as goal

-- the definition's test of the order, by the count and the mark that were read
ordered : (b : Board) (slaves : ℕ) (behind test : Bool) → slaves ≡ b.slave_count → behind ≡ b.default_line
    → (eqb slaves 0 || behind) ≡ test → (eqb b.slave_count 0 || b.default_line) ≡ test
ordered b slaves behind test s d h = rw (← s, ← d) h

-- the last tests of the definition
abbrev last : Board → ℕ → ℕ → ℕ → ℕ
last b above m s = cond (too_narrow (master_at b m) (slave_at b s)) 19 (cond (ltb (pair_rank m s) above) 21 0)

-- what is left of the definition after the share's value, and after the counts
legal : (c : Else-shares) → let a = c.args in
    let b = board_in a.board.now in
    share_refusal b a.above a.m a.s a.shares
    ≡ cond (leb b.master_count a.m || (leb b.slave_count a.s || ltb 0 (shares_at b a.m a.s))) 7
    (last b a.above a.m a.s)
unfolding share_refusal
legal c =
    let b = board_in c.args.board.now in
    rw (ordered b _ _ false c.slave_count-slaves.ensures c.default_at-after.ensures c.if-slaves-after.false, c.if-shares.false)

of_master : (c : Else-from-m) → let a = c.args in
    let b = board_in a.board.now in
    share_refusal b a.above a.m a.s a.shares
    ≡ cond (leb b.slave_count a.s || ltb 0 (shares_at b a.m a.s)) 7 (last b a.above a.m a.s)
of_master c =
    let h : c.args.m < (board_in c.args.board.now).master_count = omega arith in
    rw (legal c.before.before, lt-leb _ _ h)

there : (c : Else-from-s) → let a = c.args in
    let b = board_in a.board.now in
    share_refusal b a.above a.m a.s a.shares ≡ cond (ltb 0 (shares_at b a.m a.s)) 7 (last b a.above a.m a.s)
there c =
    let h : c.args.s < (board_in c.args.board.now).slave_count = omega arith in
    rw (of_master c.before.before, lt-leb _ _ h)

pub returns-then-slaves-after : goal.returns-then-slaves-after
unfolding share_refusal
returns-then-slaves-after c =
    record {
      number = rw (ordered (board_in c.args.board.now) _ _ true c.slave_count-slaves.ensures
          c.default_at-after.ensures c.if-slaves-after.true);
      pair = tt;
    }

pub returns-then-shares : goal.returns-then-shares
unfolding share_refusal
returns-then-shares c =
    record {
      number = rw (
        ordered (board_in c.args.board.now) _ _ false
            c.slave_count-slaves.ensures c.default_at-after.ensures c.if-slaves-after.false,
        c.if-shares.true,
      );
      pair = tt;
    }

pub returns-then-from-m : goal.returns-then-from-m
returns-then-from-m c =
    let h : (board_in c.args.board.now).master_count ≤ c.args.m = omega arith in record {
      number = rw (legal (goal.at.returns-then-from-m c).Else-shares, le-leb _ _ h);
      pair = tt;
    }

pub returns-then-from-s : goal.returns-then-from-s
returns-then-from-s c =
    let h : (board_in c.args.board.now).slave_count ≤ c.args.s = omega arith in record {
      number = rw (of_master (goal.at.returns-then-from-s c).Else-from-m, le-leb _ _ h);
      pair = tt;
    }

-- and after the pair's shares
unset : (c : Else-share_or_none-gt0) → let a = c.args in
    let b = board_in a.board.now in
    share_refusal b a.above a.m a.s a.shares ≡ last b a.above a.m a.s
unset c =
    let found = c.share_or_none in
    rw (there c.before.before, ← found.ensures, le-ltb 0 found.result (omega (arith, c.if-share_or_none-gt0.false)))

pub returns-then-share_or_none-gt0 : goal.returns-then-share_or_none-gt0
returns-then-share_or_none-gt0 c =
    let found = c.share_or_none in record {
      number = rw (there (goal.at.returns-then-share_or_none-gt0 c).Else-from-s, ← found.ensures, lt-ltb 0 found.result (omega (arith, c.if-share_or_none-gt0.true)));
      pair = tt;
    }

pub returns-then-too_narrow : goal.returns-then-too_narrow
returns-then-too_narrow c =
    record {
      number = rw (unset (goal.at.returns-then-too_narrow c).Else-share_or_none-gt0, ← c.too_narrow.ensures, c.if-too_narrow.true);
      pair = tt;
    }

-- the pair is one of the board's
small : (c : Else-too_narrow) → let a = c.args in
    (a.m ≤ 4294967295) × (a.s ≤ 4294967295)
small c =
    (omega arith, omega arith)

pub pair_rank-requires : goal.pair_rank-requires
pair_rank-requires c = small c

-- and after 19
wide : (c : Else-too_narrow) → let a = c.args in
    let b = board_in a.board.now in
    share_refusal b a.above a.m a.s a.shares ≡ cond (ltb (pair_rank a.m a.s) a.above) 21 0
wide c = rw (unset c.before.before, ← c.too_narrow.ensures, c.if-too_narrow.false)

pub returns-then-pair_rank-above : goal.returns-then-pair_rank-above
returns-then-pair_rank-above c =
    record {
      number = rw (wide (goal.at.returns-then-pair_rank-above c).Else-too_narrow, ← c.pair_rank.ensures, lt-ltb _ _ c.if-pair_rank-above.true);
      pair = tt;
    }

pub returns : goal.returns
returns c =
    record {
      number = rw (wide (goal.at.returns c).Else-too_narrow, ← c.pair_rank.ensures, le-ltb _ _ c.if-pair_rank-above.false);
      pair = small (goal.at.returns c).Else-too_narrow;
    }
