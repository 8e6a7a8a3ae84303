-- What the rules' tests say: bounds of the values in the lists, the first n slaves one by one, and what holds of a line
-- that is not refused.
-- Assumes nothing.
use mathlib.Core.Path.{◌≡◌, refl}
use mathlib.Core.Bool.{Bool, true, false, cond, not, ◌&&◌, ◌||◌}
use mathlib.Core.List.{List}
use Prim.Native.Nat.{ℕ, ◌+◌, ◌%◌, ◌≤◌, ◌<◌}
use native.Mathlib.Omega.{arith}
use lib.Dec.{leb, ltb, eqb}
use lib.ListN.{length, get_or, drop, take}
use borrow.Author.Tests.{eqb-true, eqb-false, leb-true, leb-false, ltb-true, ltb-false, not-false}
use Rattle.common_laws.specs.Lists.{member}
use Rattle.common_laws.proofs.ListLaws.{member_within, drop_take_next, drop_take_end}
use Rattle.common_laws.proofs.Tests.{both, neither, passed, at_most}
use Rattle.description_board.specs.Records.{Slave, SlaveNumbers}
use Rattle.description_board.specs.declared.Board.{Board}
use Rattle.description_board.specs.declared.Item.{Item}
use Rattle.description_board.specs.declared.Item.TheVariants.{Malformed, MasterLine, SlaveLine, ShareLine, DefaultLine}
use Rattle.description_board.specs.declared.Reading.{Reading}
use Rattle.description_board.specs.Records.{no_slave, master_at, slave_at, shares_at, total_span}
use Rattle.description_board.specs.Rules.{widths, bursts, spans, slave_values, meets, overlaps}
use Rattle.description_board.specs.Rules.{master_refusal, slave_refusal, too_narrow, pair_rank, share_refusal, default_refusal}
use Rattle.description_board.specs.Rules.{item_refusal, rank_of}
use Rattle.description_board.specs.Legal.{LegalMaster}

pub width_bound : (x : ℕ) → member x widths ≡ true → (1 ≤ x) × (x ≤ 8)
width_bound x e = member_within 1 8 x widths tt e

pub burst_bound : (x : ℕ) → member x bursts ≡ true → (1 ≤ x) × (x ≤ 64)
burst_bound x e = member_within 1 64 x bursts tt e

pub span_bound : (x : ℕ) → member x spans ≡ true → (8 ≤ x) × (x ≤ 65536)
span_bound x e = member_within 8 65536 x spans tt e

-- the first n slaves from slave i on: one more, or none
module _ (slaves : List Slave) (n i : ℕ) where
  module _ (h : i < n) (fit : n ≤ length slaves) where
    pub overlaps_here : (base span : ℕ)
        → meets base span (get_or slaves i no_slave) ≡ true → overlaps base span (drop i (take n slaves)) ≡ true
    unfolding overlaps
    overlaps_here base span e = rw (drop_take_next slaves n i no_slave h fit, e)

    pub overlaps_next : (base span : ℕ) → meets base span (get_or slaves i no_slave) ≡ false
        → overlaps base span (drop i (take n slaves)) ≡ overlaps base span (drop (i + 1) (take n slaves))
    unfolding overlaps
    overlaps_next base span e = rw (drop_take_next slaves n i no_slave h fit, e)

    pub total_next : total_span (drop i (take n slaves))
        ≡ (get_or slaves i no_slave).span + total_span (drop (i + 1) (take n slaves))
    unfolding total_span
    total_next = rw (drop_take_next slaves n i no_slave h fit)

  module _ (h : n ≤ i) where
    pub overlaps_end : (base span : ℕ) → overlaps base span (drop i (take n slaves)) ≡ false
    unfolding overlaps
    overlaps_end base span = rw (drop_take_end slaves n i h)

    pub total_end : total_span (drop i (take n slaves)) ≡ 0
    unfolding total_span
    total_end = rw (drop_take_end slaves n i h)

-- what the test of a slave line's values says
pub record Values (n : SlaveNumbers) : Type 0 where
  pub base_fits : n.base ≤ 4294967295
  pub span_fits : (8 ≤ n.span) × (n.span ≤ 65536)
  pub width_fits : (1 ≤ n.width) × (n.width ≤ 8)
  pub burst_fits : (1 ≤ n.burst) × (n.burst ≤ 64)
  pub read_fits : n.read_wait ≤ 255
  pub write_fits : n.write_wait ≤ 255
  pub native_fits : n.native ≤ 1
  pub latency_fits : n.latency ≤ 63
  pub span_listed : member n.span spans ≡ true
  pub width_listed : member n.width widths ≡ true
  pub burst_listed : member n.burst bursts ≡ true

pub values_fit : (n : SlaveNumbers) → slave_values n ≡ true → Values n
unfolding slave_values
values_fit n e =
    let e1 = both (leb n.base 4294967295) _ e in
    let e2 = both (member n.span spans) _ e1.1 in
    let e3 = both (member n.width widths) _ e2.1 in
    let e4 = both (member n.burst bursts) _ e3.1 in
    let e5 = both (leb n.read_wait 255) _ e4.1 in
    let e6 = both (leb n.write_wait 255) _ e5.1 in
    let e7 = both (leb n.native 1) (leb n.latency 63) e6.1 in
    record {
      base_fits = leb-true _ _ e1.0;
      span_fits = span_bound n.span e2.0;
      width_fits = width_bound n.width e3.0;
      burst_fits = burst_bound n.burst e4.0;
      read_fits = leb-true _ _ e5.0;
      write_fits = leb-true _ _ e6.0;
      native_fits = leb-true _ _ e7.0;
      latency_fits = leb-true _ _ e7.1;
      span_listed = e2.0;
      width_listed = e3.0;
      burst_listed = e4.0;
    }

-- a master line that is not refused
pub record MasterTaken (b : Board) (width burst : ℕ) : Type 0 where
  pub slaves_none : b.slave_count ≤ 0
  pub room : b.master_count < 8
  pub width_fits : (1 ≤ width) × (width ≤ 8)
  pub burst_fits : (1 ≤ burst) × (burst ≤ 64)
  pub legal : LegalMaster (record { width = width; burst = burst })

pub master_taken : (b : Board) (width burst : ℕ) → master_refusal b width burst ≡ 0 → MasterTaken b width burst
unfolding master_refusal
master_taken b width burst e =
    let order = passed (ltb 0 b.slave_count || leb 8 b.master_count) 1 _ e in
    let counts = neither (ltb 0 b.slave_count) _ order.0 in
    let values = passed (not (member width widths && member burst bursts)) 2 0 order.1 in
    let lists = both (member width widths) _ (not-false _ values.0) in
    record {
      slaves_none = ltb-false _ _ counts.0;
      room = leb-false _ _ counts.1;
      width_fits = width_bound width lists.0;
      burst_fits = burst_bound burst lists.1;
      legal = record { width = lists.0; burst = lists.1 };
    }

-- a slave line that is not refused
pub record SlaveTaken (b : Board) (sharing : Bool) (n : SlaveNumbers) : Type 0 where
  pub master_there : b.master_count ≡ 0 → ⊥
  pub before_shares : sharing ≡ false
  pub before_default : b.default_line ≡ false
  pub room : b.slave_count < 16
  pub values : slave_values n ≡ true
  pub aligned : n.base % n.span ≡ 0
  pub apart : overlaps n.base n.span (take b.slave_count b.slaves) ≡ false
  pub total : total_span (take b.slave_count b.slaves) + n.span ≤ 65536

pub slave_taken : (b : Board) (sharing : Bool) (n : SlaveNumbers) → slave_refusal b sharing n ≡ 0 → SlaveTaken b sharing n
unfolding slave_refusal
slave_taken b sharing n e =
    let earlier = take b.slave_count b.slaves in
    let order = passed (eqb b.master_count 0 || (sharing || (b.default_line || leb 16 b.slave_count))) 1 _ e in
    let first = neither (eqb b.master_count 0) _ order.0 in
    let second = neither sharing _ first.1 in
    let third = neither b.default_line _ second.1 in
    let legal = passed (not (slave_values n)) 2 _ order.1 in
    let multiple = passed (not (eqb (n.base % n.span) 0)) 3 _ legal.1 in
    let alone = passed (overlaps n.base n.span earlier) 4 _ multiple.1 in
    let small = passed (ltb 65536 (total_span earlier + n.span)) 5 0 alone.1 in
    record {
      master_there = eqb-false _ _ first.0;
      before_shares = second.0;
      before_default = third.0;
      room = leb-false _ _ third.1;
      values = not-false _ legal.0;
      aligned = eqb-true _ _ (not-false _ multiple.0);
      apart = alone.0;
      total = ltb-false _ _ small.0;
    }

-- a share line that is not refused
pub record ShareTaken (b : Board) (above m s shares : ℕ) : Type 0 where
  pub before_default : b.default_line ≡ false
  pub low : 1 ≤ shares
  pub high : shares ≤ 100
  pub master_there : m < b.master_count
  pub slave_there : s < b.slave_count
  pub unset : shares_at b m s ≤ 0
  pub wide : too_narrow (master_at b m) (slave_at b s) ≡ false
  pub behind : above ≤ pair_rank m s

pub share_taken : (b : Board) (above m s shares : ℕ) → share_refusal b above m s shares ≡ 0 → ShareTaken b above m s shares
unfolding share_refusal
share_taken b above m s shares e =
    let there = passed (eqb b.slave_count 0 || b.default_line) 1 _ e in
    let first = neither (eqb b.slave_count 0) _ there.0 in
    let legal = passed (ltb shares 1 || ltb 100 shares) 2 _ there.1 in
    let bounds = neither (ltb shares 1) _ legal.0 in
    let pair = passed _ 6 _ legal.1 in
    let wide = passed (too_narrow (master_at b m) (slave_at b s)) 18 _ pair.1 in
    let order = passed _ 20 0 wide.1 in
    let master = neither (leb b.master_count m) _ pair.0 in
    let slave = neither (leb b.slave_count s) _ master.1 in
    let free = ltb-false _ (shares_at b m s) slave.1 in
    let later = ltb-false (pair_rank m s) _ order.0 in
    record {
      before_default = first.1;
      low = ltb-false _ _ bounds.0;
      high = ltb-false _ _ bounds.1;
      master_there = leb-false _ _ master.0;
      slave_there = leb-false _ _ slave.0;
      unset = omega (arith, free);
      wide = wide.0;
      behind = omega (arith, later);
    }

-- a line `default` that is not refused
pub record DefaultTaken (b : Board) : Type 0 where
  pub slave_there : b.slave_count ≡ 0 → ⊥
  pub before_default : b.default_line ≡ false

pub default_taken : (b : Board) → default_refusal b ≡ 0 → DefaultTaken b
unfolding default_refusal
default_taken b e =
    let order = passed (eqb b.slave_count 0 || b.default_line) 1 0 e in
    let first = neither (eqb b.slave_count 0) _ order.0 in
    record { slave_there = eqb-false _ _ first.0; before_default = first.1 }

-- what is true of every number up to 19, and of 21 where the line's pair comes before the pair above, is true of what it is refused
-- with: so no line is refused with 20
pub item_number : (P : ℕ → Type 0) (r : Reading) (x : Item) → ((n : ℕ) → n ≤ 19 → P n) → (rank_of x < r.above → P 21)
    → P (item_refusal r x)
unfolding item_refusal master_refusal slave_refusal share_refusal default_refusal rank_of
item_number P r Malformed low before = low 1 (omega arith)
item_number P r (MasterLine w u) low before =
    let b = r.board in
    low _
    (at_most (ltb 0 b.slave_count || leb 8 b.master_count) 2 _ (omega arith)
    (at_most (not (member w widths && member u bursts)) 3 0 (omega arith) (omega arith)))
item_number P r (SlaveLine n) low before =
    let b = r.board in
    let earlier = take b.slave_count b.slaves in
    low _
    (at_most (eqb b.master_count 0 || (ltb 0 r.above || (b.default_line || leb 16 b.slave_count))) 2 _ (omega arith)
    (at_most (not (slave_values n)) 3 _ (omega arith)
    (at_most (not (eqb (n.base % n.span) 0)) 4 _ (omega arith)
    (at_most (overlaps n.base n.span earlier) 5 _ (omega arith)
    (at_most (ltb 65536 (total_span earlier + n.span)) 6 0 (omega arith) (omega arith))))))
item_number P r (ShareLine m s n) low before =
    let b = r.board in
    go (eqb b.slave_count 0 || b.default_line) (ltb n 1 || ltb 100 n)
    (leb b.master_count m || (leb b.slave_count s || ltb 0 (shares_at b m s)))
    (too_narrow (master_at b m) (slave_at b s)) (ltb (pair_rank m s) r.above) refl
  where
    go : (c d e f t : Bool) → ltb (pair_rank m s) r.above ≡ t
        → P (cond c 2 (cond d 3 (cond e 7 (cond f 19 (cond t 21 0)))))
    go true d e f t q = low 2 (omega arith)
    go false true e f t q = low 3 (omega arith)
    go false false true f t q = low 7 (omega arith)
    go false false false true t q = low 19 (omega arith)
    go false false false false true q = before (ltb-true _ _ q)
    go false false false false false q = low 0 (omega arith)
item_number P r DefaultLine low before =
    let b = r.board in
    low _ (at_most (eqb b.slave_count 0 || b.default_line) 2 0 (omega arith) (omega arith))
