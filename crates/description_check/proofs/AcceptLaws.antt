-- The tests of the fast accept, and what they say together: the board is legal.
-- Assumes nothing.
use mathlib.Core.Path.{◌≡◌, refl, sym, ◌∙◌}
use mathlib.Core.List.{List}
use mathlib.Core.Bool.{Bool, true, false, cond, not, ◌&&◌, ◌||◌}
use mathlib.Core.Logic.{◌≢◌}
use Prim.Native.Nat.{ℕ, ◌+◌, ◌-◌, ◌*◌, ◌/◌, ◌%◌, ◌^◌, ◌≤◌, ◌<◌}
use native.Mathlib.Nat.{div-add-mod', mod-lt}
use native.Mathlib.Numerals.{add-one}
use native.Mathlib.Omega.{arith}
use lib.Bits.{bit_and, bit_or, and_mask, and_le_l, and_le_r, or_add_and}
use lib.Count.{ones, ones_in}
use lib.Dec.{leb, ltb, eqb}
use lib.ListN.{get_or, take}
use borrow.Author.Count.{below_none, below_more}
use borrow.Author.Tests.{eqb-true, leb-true, ltb-true, ltb-false, le-ltb, le-leb, not-false}
use Rattle.common_laws.specs.Lists.{member, agree}
use Rattle.common_laws.proofs.Finite.{each, agree_eq}
use Rattle.common_laws.proofs.Tests.{both, neither}
use Rattle.description_board.specs.declared.Master.{Master}
use Rattle.description_board.specs.Records.{Slave}
use Rattle.description_board.specs.declared.Board.{Board}
use Rattle.description_board.specs.Records.{no_master, no_slave, is_native, master_at, slave_at, total_span}
use Rattle.description_board.specs.Records.{start_of, memory_length}
use Rattle.description_board.specs.Rules.{widths, bursts, spans, slave_values, meets, overlaps, too_narrow, without_share}
use Rattle.description_board.specs.Items.{board_refusal}
use Rattle.description_board.proofs.RuleLaws.{width_bound, burst_bound}
use Rattle.description_board.proofs.EndLaws.{each_shared}
use Rattle.description_board.proofs.SpanLaws.{apart_at, total_suc}
use Rattle.description_board.proofs.BoardSound.{values_legal}
use Rattle.description_board.proofs.Accepted.{legal_accepted}
use Rattle.description_check.specs.Code.Accept.{power_up_to, MastersFit, SlaveFits, Clear, NativesUpTo, SlavesFit}
use Rattle.description_check.specs.Code.Accept.{ColumnFits, WideEnough, NativesFit}
use Rattle.description_check.specs.Code.Accept.{share_limit, RowFits, RowEmpty, SharesFit}
use Rattle.description_check.proofs.LowBitLaws.{one_bit, listed_is}

-- the legal widths and bursts: up to the largest of the list, one bit set
pub width_is : (x : ℕ) → power_up_to 8 x ≡ member x widths
unfolding power_up_to member ones ones_in
width_is = listed_is widths 8 (λ n h. (width_bound n h).1) tt

pub burst_is : (x : ℕ) → power_up_to 64 x ≡ member x bursts
unfolding power_up_to member ones ones_in
burst_is = listed_is bursts 64 (λ n h. (burst_bound n h).1) tt

-- a span with one bit set, and a base that has none of the bits below it
span_is : (j : ℕ) → j < 17 → leb 8 (2 ^ j) ≡ member (2 ^ j) spans
unfolding member
span_is j h = agree_eq _ _ (each (λ k. agree (leb 8 (2 ^ k)) (member (2 ^ k) spans)) 17 tt j h)

pub span_tested : (base span low : ℕ) (power : Bool) → low ≡ span - 1 → power ≡ power_up_to 65536 span
    → ((power && leb 8 span) && eqb (bit_and base low) 0) ≡ true
    → (member span spans ≡ true) × (base % span ≡ 0)
unfolding power_up_to
span_tested base span low power l w e =
    let e1 = both (power && leb 8 span) _ e in
    let e2 = both power _ e1.0 in
    let e3 = both (leb span 65536) _ (sym w ∙ e2.0) in
    let most : span ≤ 65536 = leb-true _ _ e3.0 in
    let p = one_bit 17 span (omega arith) (eqb-true _ _ e3.1) in
    let low : bit_and base (2 ^ p.0 - 1) ≡ 0 = rw (l, p.2) at (eqb-true (bit_and base low) 0 e1.1) in
    let listed : leb 8 (2 ^ p.0) ≡ true = rw p.2 at e2.1 in
    (rw p.2 (sym (span_is p.0 p.1) ∙ listed), rw p.2 (sym (and_mask base p.0) ∙ low))

-- a share within the limit is 0, or at most 100 and inside the count
limited : (x n s : ℕ) → x ≤ share_limit s n → x ≢ 0 → (x ≤ 100) × (s < n)
unfolding share_limit
limited x n s = go (ltb s n) refl
  where
    go : (b : Bool) → ltb s n ≡ b → x ≤ cond b 100 0 → x ≢ 0 → (x ≤ 100) × (s < n)
    go true e h z = (h, ltb-true s n e)
    go false e h z = absurd (z (omega arith))

-- no bit in an OR: none in either part
or_none : (a b : ℕ) → bit_or a b ≡ 0 → (a ≡ 0) × (b ≡ 0)
or_none a b e = (omega (arith, or_add_and a b, and_le_r a b), omega (arith, or_add_and a b, and_le_l a b))

-- one share more of a row
pub row_next : (shares : List ℕ) (m n s : ℕ) (bad : Bool) (x most : ℕ) → x ≡ get_or shares (16 * m + s) 0 → most ≡ share_limit s n
    → (bad ≡ false → RowFits shares m n s) → (bad || ltb most x) ≡ false → RowFits shares m n (s + 1)
row_next shares m n s bad x most e l f q =
    let p = neither bad _ q in
    let w : x ≤ share_limit s n = rw l at (ltb-false most x p.1) in
    record { each = below_more _ s (f p.0).each (rw e at (limited x n s w)) }

pub row_empty_next : (shares : List ℕ) (m s used x : ℕ) → x ≡ get_or shares (16 * m + s) 0
    → (used ≡ 0 → RowEmpty shares m s) → bit_or used x ≡ 0 → RowEmpty shares m (s + 1)
row_empty_next shares m s used x e f q =
    let p = or_none used x q in
    record { each = below_more _ s (f p.0).each (sym e ∙ p.1) }

-- row by row, so share by share
all_shares : (shares : List ℕ) (masters slaves : ℕ) → SharesFit shares masters slaves 8 → (i : ℕ) → i < 128 → get_or shares i 0 ≢ 0
    → (get_or shares i 0 ≤ 100) × (i / 16 < masters) × (i % 16 < slaves)
all_shares shares masters slaves f i h =
    let m = i / 16 in
    let s = i % 16 in
    let e : i ≡ 16 * m + s = omega (arith, div-add-mod' i 16) in
    let l : m < 8 = omega (arith, div-add-mod' i 16) in
    let t : s < 16 = mod-lt i (omega arith) in
    λ z. let p = (f.row m l).each s t (rw (← e) z) in
    (rw (← e) at p.0, p.1, p.2)

-- one master more
pub master_next : (masters : List Master) (i : ℕ) (m : Master) (width burst : Bool) → m ≡ get_or masters i no_master
    → width ≡ member m.width widths → burst ≡ member m.burst bursts → not (width && burst) ≡ false
    → MastersFit masters i → MastersFit masters (i + 1)
master_next masters i m width burst e w u t f =
    let p = both width burst (not-false _ t) in
    let q : (member m.width widths ≡ true) × (member m.burst bursts ≡ true) = (sym w ∙ p.0, sym u ∙ p.1) in
    record { each = below_more _ i f.each (rw e at q) }

-- ---- a slave and its masters

-- a slave that is not native has no master that is too narrow, and no master is so that is as wide
not_native : (ma : Master) (sl : Slave) → sl.native ≡ 0 → too_narrow ma sl ≡ false
unfolding too_narrow is_native
not_native ma sl e = rw e

as_wide : (ma : Master) (sl : Slave) → sl.width ≤ ma.width → too_narrow ma sl ≡ false
unfolding too_narrow
as_wide ma sl h = go (is_native sl)
  where
    go : (n : Bool) → (n && ltb ma.width sl.width) ≡ false
    go true = le-ltb ma.width sl.width h
    go false = refl

-- the slave is not native, or no wider than the narrowest master
pub wide_at_once : (b : Board) (s : ℕ) (sl : Slave) (least : ℕ) → (eqb sl.native 0 || leb sl.width least) ≡ true
    → WideEnough b s sl least
wide_at_once b s sl least = go (eqb sl.native 0) refl
  where
    go : (n : Bool) → eqb sl.native 0 ≡ n → (n || leb sl.width least) ≡ true → WideEnough b s sl least
    go true e h = record { each = λ m l z w. not_native (master_at b m) sl (eqb-true sl.native 0 e) }
    go false e h = record { each = λ m l z w. as_wide (master_at b m) sl (omega (arith, w, leb-true sl.width least h)) }

-- of a board without native slaves, all at once
pub none_wide : (b : Board) (n native masters : ℕ) → NativesUpTo b.slaves n native → native ≡ 0 → NativesFit b n masters
none_wide b n native masters f e = record {
  each = λ s l m k z. not_native (master_at b m) (slave_at b s) (omega (arith, f.each s l));
}

-- or its masters are wide enough
pub wide_by_column : (b : Board) (s : ℕ) (sl : Slave) (least : ℕ) → ColumnFits b s sl.width 8 → WideEnough b s sl least
wide_by_column b s sl least f = record { each = λ m l z w. as_wide (master_at b m) sl (f.each m l z) }

-- a slave that passes every test
pub slave_passed : (s : Slave) (span width burst : Bool) → s.base ≤ 4294967295
    → (span ≡ true → (member s.span spans ≡ true) × (s.base % s.span ≡ 0)) → width ≡ member s.width widths
    → burst ≡ member s.burst bursts
    → (span && ((width && burst) && (leb s.read_wait 255 && (leb s.write_wait 255 && leb s.latency 63)))) ≡ true
    → SlaveFits s
unfolding slave_values
slave_passed s span width burst base f w u e =
    let e1 = both span _ e in
    let e2 = both (width && burst) _ e1.1 in
    let e3 = both width burst e2.0 in
    let e4 = both (leb s.read_wait 255) _ e2.1 in
    let e5 = both (leb s.write_wait 255) _ e4.1 in
    let p = f e1.0 in
    record {
      values = λ n. rw (le-leb _ _ base, p.0, sym w ∙ e3.0, sym u ∙ e3.1, e4.0, e5.0, le-leb _ _ n, e5.1);
      aligned = p.1;
    }

-- a span from the last end on meets none, and one that overlaps none
pub clear_behind : (base span last : ℕ) (slaves : List Slave) (n : ℕ)
    → ((k : ℕ) → k < n → (get_or slaves k no_slave).base + (get_or slaves k no_slave).span ≤ last) → last ≤ base → Clear base span
    slaves n
unfolding meets
clear_behind base span last slaves n f h = record {
  each = λ k l. let w : (get_or slaves k no_slave).base + (get_or slaves k no_slave).span ≤ base = omega (arith, f k l) in
      rw (le-ltb base _ w);
}

pub clear_apart : (base span : ℕ) (slaves : List Slave) (n : ℕ) → overlaps base span (take n slaves) ≡ false → Clear base span
    slaves n
clear_apart base span slaves n e = record { each = apart_at base span n slaves e }

-- the first i slaves: what is known of each, and what the last end, the total and the natives' number keep of them
pub record Passed (slaves : List Slave) (k : ℕ) : Type 0 where
  pub fits : SlaveFits (get_or slaves k no_slave)
  pub apart : (j : ℕ) → j < k
      → meets (get_or slaves k no_slave).base (get_or slaves k no_slave).span (get_or slaves j no_slave) ≡ false

pub record SoFar (slaves : List Slave) (native last total i : ℕ) : Type 0 where
  pub passed : (k : ℕ) → k < i → Passed slaves k
  pub before : (k : ℕ) → k < i → (get_or slaves k no_slave).base + (get_or slaves k no_slave).span ≤ last
  pub sum : total ≡ total_span (take i slaves)
  pub small : total ≤ 4294967295 * i
  pub up_to : NativesUpTo slaves i native

pub so_far_start : (slaves : List Slave) → SoFar slaves 0 0 0 0
unfolding total_span
so_far_start slaves = record {
  passed = below_none _;
  before = below_none _;
  sum = refl;
  small = omega arith;
  up_to = record { each = below_none _ };
}

-- one slave more
pub record Next (slaves : List Slave) (last i r : ℕ) (s : Slave) : Type 0 where
  pub fits : SlaveFits s
  pub small : s.span ≤ 4294967295
  pub clear : Clear s.base s.span slaves i
  pub behind : (last ≤ r) × (s.base + s.span ≤ r)

up_to_next : (slaves : List Slave) (native i : ℕ) → NativesUpTo slaves i native
    → NativesUpTo slaves (i + 1) (bit_or native (get_or slaves i no_slave).native)
up_to_next slaves native i f =
    let x = (get_or slaves i no_slave).native in
    record {
      each = below_more _ i (λ k h. omega (arith, f.each k h, or_add_and native x, and_le_r native x))
          (omega (arith, or_add_and native x, and_le_l native x));
    }

next : (slaves : List Slave) (native last total i r : ℕ) → SoFar slaves native last total i
    → Next slaves last i r (get_or slaves i no_slave)
    → SoFar slaves (bit_or native (get_or slaves i no_slave).native) r (total + (get_or slaves i no_slave).span) (i + 1)
next slaves native last total i r p q = record {
  passed = below_more _ i p.passed (record { fits = q.fits; apart = q.clear.each });
  before = below_more _ i (λ k h. omega (arith, p.before k h, q.behind.0)) q.behind.1;
  sum = rw (add-one i, total_suc slaves i) (omega (arith, p.sum));
  small = omega (arith, p.small, q.small);
  up_to = up_to_next slaves native i p.up_to;
}

pub so_far_next : (slaves : List Slave) (native last total i r span : ℕ) (s : Slave) → s ≡ get_or slaves i no_slave → span ≡ s.span
    → SoFar slaves native last total i → Next slaves last i r s
    → SoFar slaves (bit_or native s.native) r (total + span) (i + 1)
so_far_next slaves native last total i r span s e f p q = rw (f, e) (next slaves native last total i r p (rw e at q))

-- a board whose parts pass is accepted
parts_legal : (b : Board)
    → (0 < b.master_count) × (b.master_count ≤ 8) → (0 < b.slave_count) × (b.slave_count ≤ 16)
    → MastersFit b.masters b.master_count → {native : ℕ} → SlavesFit b.slaves b.slave_count native
    → NativesFit b b.slave_count b.master_count
    → SharesFit b.shares b.master_count b.slave_count 8 → b.master_count ≤ without_share b → board_refusal b ≡ 0
unfolding memory_length start_of
parts_legal b m s masters slaves natives shares whole = legal_accepted b (record {
  some_master = m.0;
  few_masters = m.1;
  some_slave = s.0;
  few_slaves = s.1;
  master = λ k h. let p = masters.each k h in record { width = p.0; burst = p.1 };
  slave = λ k h.
      let f = slaves.each k h in
      values_legal _ (f.values (omega (arith, slaves.up_to.each k h, slaves.small))) f.aligned;
  apart = slaves.apart;
  total = slaves.total;
  shares = all_shares b.shares b.master_count b.slave_count shares;
  wide = λ i l z.
      let p = all_shares b.shares b.master_count b.slave_count shares i l z in
      let e : i ≡ 16 * (i / 16) + i % 16 = omega (arith, div-add-mod' i 16) in
      natives.each (i % 16) p.2 (i / 16) p.1 (rw (← e) z);
  connects = each_shared b whole;
})

-- the same, by counts that were read
pub parts_accepted : (b : Board) (m s : ℕ) → m ≡ b.master_count → s ≡ b.slave_count
    → (0 < m) × (m ≤ 8) → (0 < s) × (s ≤ 16)
    → MastersFit b.masters m → {native : ℕ} → SlavesFit b.slaves s native → NativesFit b s m
    → SharesFit b.shares m s 8 → {w : ℕ} → w ≡ without_share b → leb m w ≡ true → board_refusal b ≡ 0
parts_accepted b m s e f hm hs masters slaves natives shares {w} g whole =
    parts_legal b (rw e at hm) (rw f at hs) (rw e at masters) (rw f at slaves) (rw (e, f) at natives)
    (rw (e, f) at shares) (omega (arith, e, g, leb-true m w whole))
