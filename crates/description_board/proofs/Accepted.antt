-- The check accepts exactly the legal boards.
-- Assumes nothing.
use mathlib.Core.Path.{◌≡◌, refl, sym, ap}
use mathlib.Core.Logic.{◌≢◌}
use Prim.Native.Nat.{ℕ, suc, ◌+◌, ◌*◌, ◌/◌, ◌%◌, ◌≤◌, ◌<◌}
use native.Mathlib.Omega.{arith}
use lib.ListN.{get_or, take}
use borrow.Author.Tests.{le-ltb, le-leb, lt-leb, eq-eqb, ne_eqb}
use Rattle.common_laws.proofs.FrontLaws.{front, front_there, front_blank}
use Rattle.common_laws.proofs.TableLaws.{get_or_table}
use Rattle.description_board.specs.declared.Board.{Board}
use Rattle.description_board.specs.declared.Reading.{Reading}
use Rattle.description_board.specs.Records.{no_master, no_slave, master_at, slave_at, total_span, start_of, memory_length}
use Rattle.description_board.specs.declared.Item.TheVariants.{DefaultLine}
use Rattle.description_board.specs.Rules.{slave_values, master_refusal, slave_refusal, pair_rank, share_refusal, item_refusal}
use Rattle.description_board.specs.Rules.{default_refusal, start, step_all, end_refusal, finish, described}
use Rattle.description_board.specs.Items.{master_item, slave_item, items, board_refusal}
use Rattle.description_board.specs.Rebuilt.{trimmed}
use Rattle.description_board.specs.Legal.{Legal}
use Rattle.description_board.proofs.EndLaws.{share_carried, end_clear}
use Rattle.description_board.proofs.SpanLaws.{all_apart, total_suc, total_same, total_fewer}
use Rattle.description_board.proofs.BoardSound.{step_accepted, run_accepted, finish_accepted, described_legal}
use Rattle.description_board.proofs.OwnLines.{last_rank, last_within, read_to, all_read, share_line, read_items}

-- a trimmed board has the entries of the board
module _ (b : Board) where
  pub trimmed_master : b.master_count ≤ 8 → (m : ℕ) → m < b.master_count → master_at (trimmed b) m ≡ master_at b m
  unfolding trimmed front
  trimmed_master h m l = front_there (master_at b) no_master 8 b.master_count m l (omega arith)

  pub trimmed_slave : b.slave_count ≤ 16 → (s : ℕ) → s < b.slave_count → slave_at (trimmed b) s ≡ slave_at b s
  unfolding trimmed front
  trimmed_slave h s l = front_there (slave_at b) no_slave 16 b.slave_count s l (omega arith)

  pub trimmed_share : (i : ℕ) → i < 128 → get_or (trimmed b).shares i 0 ≡ get_or b.shares i 0
  unfolding trimmed
  trimmed_share i l = get_or_table _ 128 0 i l

-- an accepted board's own lines describe the board, trimmed, and what lines describe is legal
legal_trimmed : (b : Board) → board_refusal b ≡ 0 → Legal (trimmed b)
unfolding board_refusal described all_read
legal_trimmed b e =
    let a = finish_accepted (step_all start (items b)) e in
    let read = read_items (λ r. r.number ≡ 0) run_accepted b (λ m l n. (step_accepted _ _ n).1)
    (λ s l n. (step_accepted _ _ n).1) (λ k l z n. (step_accepted _ _ n).1) (λ d n. (step_accepted _ _ n).1) a.0 in
    rw (a.2, read) at (described_legal (items b) e)

pub accepted_legal : (b : Board) → board_refusal b ≡ 0 → Legal b
unfolding trimmed memory_length start_of
accepted_legal b e =
    let k = legal_trimmed b e in
    let entry = trimmed_slave b k.few_slaves in
    record {
      some_master = k.some_master;
      few_masters = k.few_masters;
      some_slave = k.some_slave;
      few_slaves = k.few_slaves;
      master = λ m l. rw (trimmed_master b k.few_masters m l) at (k.master m l);
      slave = λ s l. rw (entry s l) at (k.slave s l);
      apart = λ s j l m. rw (entry j m, entry s (omega arith)) at (k.apart s j l m);
      total = rw (total_same (trimmed b).slaves b.slaves b.slave_count entry) at k.total;
      shares = λ i l. rw (trimmed_share b i l) at (k.shares i l);
      wide = λ i l z.
          let z' : get_or (trimmed b).shares i 0 ≢ 0 = rw (trimmed_share b i l) z in
          let p = k.shares i l z' in
          rw (trimmed_master b k.few_masters (i / 16) p.1, entry (i % 16) p.2) at (k.wide i l z');
      connects = λ m l. share_carried (trimmed b) b m (omega (arith, k.few_masters)) refl (trimmed_share b) (k.connects m l);
    }

-- no line of a legal board is refused
module _ (b : Board) (k : Legal b) where
  master_clear : (m : ℕ) → m < b.master_count → item_refusal (read_to b m 0 0) (master_item b.masters m) ≡ 0
  unfolding read_to master_item item_refusal master_refusal
  master_clear m l =
      let x = k.master m l in
      let few = k.few_masters in
      rw (lt-leb 8 m (omega arith), x.width, x.burst)

  slave_clear : (s : ℕ) → s < b.slave_count
      → item_refusal (read_to b b.master_count s 0) (slave_item b.slaves s) ≡ 0
  unfolding read_to last_rank slave_item item_refusal slave_refusal slave_values memory_length start_of
  slave_clear s l =
      let x = k.slave s l in
      let y = slave_at b s in
      let few = k.few_slaves in
      let earlier = front (slave_at b) no_slave 16 s in
      let entry : (i : ℕ) → i < s → get_or earlier i no_slave ≡ slave_at b i =
      λ i h. front_there (slave_at b) no_slave 16 s i h (omega arith) in
      let apart = all_apart y.base y.span s earlier (λ i h. rw (entry i h) (k.apart i s h l)) in
      let total : total_span (take s earlier) + y.span ≤ 65536 =
      omega (
        arith,
        total_same earlier b.slaves s entry,
        total_suc b.slaves s,
        total_fewer b.slaves b.slave_count (suc s) l,
        k.total,
      ) in
      rw (
        ne_eqb b.master_count 0 (omega (arith, k.some_master)),
        lt-leb 16 s (omega arith),
        le-leb _ _ x.base,
        x.span,
        x.width,
        x.burst,
        le-leb _ _ x.read_wait,
        le-leb _ _ x.write_wait,
        le-leb _ _ x.native,
        le-leb _ _ x.latency,
        eq-eqb _ _ x.aligned,
        apart,
        le-ltb _ _ total,
      )

  share_clear : (i : ℕ) → i < 128 → get_or b.shares i 0 ≢ 0
      → item_refusal (read_to b b.master_count b.slave_count i) (share_line b i) ≡ 0
  unfolding read_to item_refusal share_refusal pair_rank
  share_clear i l z =
      let p = k.shares i l z in
      let n = get_or b.shares i 0 in
      let e : 16 * (i / 16) + i % 16 ≡ i = omega arith in
      rw (
        ne_eqb b.slave_count 0 (omega (arith, k.some_slave)),
        le-ltb n 1 (omega arith),
        le-ltb 100 n p.0,
        lt-leb b.master_count (i / 16) p.1,
        lt-leb b.slave_count (i % 16) p.2,
        e,
        front_blank (λ j. get_or b.shares j 0) 0 128 i i (omega arith) l,
        front_there (master_at b) no_master 8 b.master_count (i / 16) p.1 (omega (arith, k.few_masters)),
        front_there (slave_at b) no_slave 16 b.slave_count (i % 16) p.2 (omega (arith, k.few_slaves)),
        k.wide i l z,
        le-ltb (i + 1) (last_rank b i) (omega (arith, last_within b i)),
      )

  default_clear : item_refusal (read_to b b.master_count b.slave_count 128) DefaultLine ≡ 0
  unfolding read_to item_refusal default_refusal
  default_clear = rw (ne_eqb b.slave_count 0 (omega (arith, k.some_slave)))

  -- nothing is missing at the end
  end_none : end_refusal (trimmed b) ≡ 0
  unfolding trimmed
  end_none = end_clear (trimmed b) (record {
    some_master = λ z. omega (arith, k.some_master);
    some_slave = λ z. omega (arith, k.some_slave);
    connects = λ m l.
        share_carried b (trimmed b) m (omega (arith, k.few_masters)) refl (λ i h. sym (trimmed_share b i h)) (k.connects m l);
  })

  pub rebuilt : described (items b) ≡ all_read b
  unfolding described finish all_read
  rebuilt =
      rw (
        read_items (λ r. Unit {0}) (λ r xs e. tt) b (λ m l _. master_clear m l) (λ s l _. slave_clear s l)
            (λ i l z _. share_clear i l z) (λ d _. default_clear) tt,
        end_none,
      )

  pub legal_accepted : board_refusal b ≡ 0
  unfolding board_refusal all_read
  legal_accepted = ap (λ (r : Reading). r.number) rebuilt
