-- Whatever lines are read: while none is refused, the board so far keeps the rules, and zeros stand behind its counts.
-- Assumes nothing.
use mathlib.Core.Path.{◌≡◌, refl, ◌∙◌}
use mathlib.Core.Bool.{Bool, true, false, cond}
use mathlib.Core.List.{List, [], ◌∷◌}
use mathlib.Core.Logic.{◌≢◌}
use Prim.Native.Nat.{ℕ, ◌+◌, ◌*◌, ◌/◌, ◌%◌, ◌≤◌, ◌<◌}
use native.Mathlib.Numerals.{add-one}
use native.Mathlib.Omega.{arith}
use lib.Dec.{ltb, eqb}
use lib.ListN.{length, get_or, length-set}
use lib.Seq.{get_or-set_same, get_or-set_other, take-set-le}
use borrow.Author.Tests.{eqb-true, eqb-false}
use Rattle.common_laws.proofs.FrontLaws.{set_each}
use Rattle.common_laws.proofs.TableLaws.{get_or_replicate_all}
use Rattle.description_board.specs.Records.{SlaveNumbers}
use Rattle.description_board.specs.declared.Board.{Board}
use Rattle.description_board.specs.declared.Item.{Item}
use Rattle.description_board.specs.declared.Item.TheVariants.{Malformed, MasterLine, SlaveLine, ShareLine, DefaultLine}
use Rattle.description_board.specs.declared.Reading.{Reading}
use Rattle.description_board.specs.Records.{no_master, no_slave, no_board, master_at, slave_at, total_span, start_of, memory_length}
use Rattle.description_board.specs.Rules.{slave_values, slave_of, meets}
use Rattle.description_board.specs.Rules.{master_refusal, slave_refusal, too_narrow, share_refusal, default_refusal}
use Rattle.description_board.specs.Rules.{item_refusal, with_master, with_slave, with_share, with_default}
use Rattle.description_board.specs.Rules.{with_item, refused, start, taken, step, step_all, end_refusal, finish, described}
use Rattle.description_board.specs.Legal.{LegalMaster, LegalSlave, Legal}
use Rattle.description_board.proofs.RuleLaws.{values_fit, master_taken, slave_taken, share_taken, default_taken}
use Rattle.description_board.proofs.EndLaws.{EndTaken, end_taken}
use Rattle.description_board.proofs.SpanLaws.{apart_at, total_suc}

-- the slave of a line is legal where the test of its values passes and its base is a multiple of its span
pub values_legal : (n : SlaveNumbers) → slave_values n ≡ true → n.base % n.span ≡ 0 → LegalSlave (slave_of n)
values_legal n e f =
    let v = values_fit n e in
    record {
      base = v.base_fits;
      span = v.span_listed;
      width = v.width_listed;
      burst = v.burst_listed;
      read_wait = v.read_fits;
      write_wait = v.write_fits;
      native = v.native_fits;
      latency = v.latency_fits;
      aligned = f;
    }

-- the board so far
pub record Sound (b : Board) : Type 0 where
  pub master_places : length b.masters ≡ 8
  pub slave_places : length b.slaves ≡ 16
  pub share_places : length b.shares ≡ 128
  pub few_masters : b.master_count ≤ 8
  pub few_slaves : b.slave_count ≤ 16
  pub master : (m : ℕ) → m < b.master_count → LegalMaster (master_at b m)
  pub slave : (s : ℕ) → s < b.slave_count → LegalSlave (slave_at b s)
  pub apart : (s k : ℕ) → s < k → k < b.slave_count → meets (slave_at b k).base (slave_at b k).span (slave_at b s) ≡ false
  pub total : memory_length b ≤ 65536
  pub shares : (i : ℕ) → i < 128 → get_or b.shares i 0 ≢ 0
      → (get_or b.shares i 0 ≤ 100) × (i / 16 < b.master_count) × (i % 16 < b.slave_count)
  pub wide : (i : ℕ) → i < 128 → get_or b.shares i 0 ≢ 0 → too_narrow (master_at b (i / 16)) (slave_at b (i % 16)) ≡ false
  pub master_end : (m : ℕ) → b.master_count ≤ m → master_at b m ≡ no_master
  pub slave_end : (s : ℕ) → b.slave_count ≤ s → slave_at b s ≡ no_slave
  pub default_last : b.slave_count ≤ 0 → b.default_line ≡ false

pub sound_start : Sound no_board
unfolding no_board memory_length start_of total_span
sound_start = record {
  master_places = refl;
  slave_places = refl;
  share_places = refl;
  few_masters = omega arith;
  few_slaves = omega arith;
  master = λ m h. absurd (omega arith);
  slave = λ s h. absurd (omega arith);
  apart = λ s k l h. absurd (omega arith);
  total = omega arith;
  shares = λ i h n. absurd (n (get_or_replicate_all 128 i 0));
  wide = λ i h n. absurd (n (get_or_replicate_all 128 i 0));
  master_end = λ m h. get_or_replicate_all 8 m no_master;
  slave_end = λ s h. get_or_replicate_all 16 s no_slave;
  default_last = λ h. refl;
}

sound_master : (b : Board) (w u : ℕ) → master_refusal b w u ≡ 0 → Sound b → Sound (with_master b w u)
unfolding with_master memory_length start_of
sound_master b w u e k =
    let t = master_taken b w u e in
    let h : b.master_count < length b.masters = omega arith in
    record {
      master_places = rw length-set k.master_places;
      slave_places = k.slave_places;
      share_places = k.share_places;
      few_masters = omega arith;
      few_slaves = k.few_slaves;
      master = λ m l. set_each (λ i y. i < b.master_count + 1 → LegalMaster y) b.masters b.master_count _ no_master h
          (λ _. t.legal) m (λ d _. k.master m (omega arith)) l;
      slave = k.slave;
      apart = k.apart;
      total = k.total;
      shares = λ i l n. let p = k.shares i l n in (p.0, omega arith, p.2);
      wide = λ i l n.
          let p = k.shares i l n in
          rw (get_or-set_other b.masters b.master_count (i / 16) _ no_master (omega arith)) (k.wide i l n);
      master_end = λ m l.
          get_or-set_other b.masters b.master_count m _ no_master (omega arith) ∙ k.master_end m (omega arith);
      slave_end = k.slave_end;
      default_last = k.default_last;
    }

sound_slave : (b : Board) (sharing : Bool) (n : SlaveNumbers) → slave_refusal b sharing n ≡ 0
    → Sound b → Sound (with_slave b (slave_of n))
unfolding with_slave memory_length start_of
sound_slave b sharing n e k =
    let t = slave_taken b sharing n e in
    let c = b.slave_count in
    let x = slave_of n in
    let h : b.slave_count < length b.slaves = omega arith in
    record {
      master_places = k.master_places;
      slave_places = rw length-set k.slave_places;
      share_places = k.share_places;
      few_masters = k.few_masters;
      few_slaves = omega arith;
      master = k.master;
      slave = λ s l. set_each (λ i y. i < b.slave_count + 1 → LegalSlave y) b.slaves c x no_slave h
          (λ _. values_legal n t.values t.aligned) s (λ d _. k.slave s (omega arith)) l;
      apart = λ s j l m.
          rw (get_or-set_other b.slaves c s x no_slave (omega arith))
          (set_each (λ i y. s < i → i < b.slave_count + 1 → meets y.base y.span (slave_at b s) ≡ false)
          b.slaves c x no_slave h (λ p _. apart_at n.base n.span c b.slaves t.apart s p)
          j (λ d p q. k.apart s j p (omega arith)) l m);
      total = rw (add-one, total_suc, take-set-le c b.slaves c x (omega arith), get_or-set_same) t.total;
      shares = λ i l z. let p = k.shares i l z in (p.0, p.1, omega arith);
      wide = λ i l z.
          let p = k.shares i l z in
          rw (get_or-set_other b.slaves c (i % 16) x no_slave (omega arith)) (k.wide i l z);
      master_end = k.master_end;
      slave_end = λ s l. get_or-set_other b.slaves c s x no_slave (omega arith) ∙ k.slave_end s (omega arith);
      default_last = λ h. t.before_default;
    }

sound_share : (b : Board) (above m s n : ℕ) → share_refusal b above m s n ≡ 0 → Sound b → Sound (with_share b m s n)
unfolding with_share memory_length start_of
sound_share b above m s n e k =
    let t = share_taken b above m s n e in
    let row : (16 * m + s) / 16 ≡ m = omega arith in
    let column : (16 * m + s) % 16 ≡ s = omega arith in
    record {
      master_places = k.master_places;
      slave_places = k.slave_places;
      share_places = rw length-set k.share_places;
      few_masters = k.few_masters;
      few_slaves = k.few_slaves;
      master = k.master;
      slave = k.slave;
      apart = k.apart;
      total = k.total;
      shares = λ i l. set_each
          (λ j y. y ≢ 0 → (y ≤ 100) × (j / 16 < b.master_count) × (j % 16 < b.slave_count))
          b.shares (16 * m + s) n 0 (omega arith) (λ _. (t.high, omega arith, omega arith)) i (λ _. k.shares i l);
      wide = λ i l. set_each (λ j y. y ≢ 0 → too_narrow (master_at b (j / 16)) (slave_at b (j % 16)) ≡ false)
          b.shares (16 * m + s) n 0 (omega arith) (λ _. rw (row, column) t.wide) i (λ _. k.wide i l);
      master_end = k.master_end;
      slave_end = k.slave_end;
      default_last = k.default_last;
    }

sound_default : (b : Board) → default_refusal b ≡ 0 → Sound b → Sound (with_default b)
unfolding with_default memory_length start_of
sound_default b e k =
    let t = default_taken b e in
    record {
      master_places = k.master_places;
      slave_places = k.slave_places;
      share_places = k.share_places;
      few_masters = k.few_masters;
      few_slaves = k.few_slaves;
      master = k.master;
      slave = k.slave;
      apart = k.apart;
      total = k.total;
      shares = k.shares;
      wide = k.wide;
      master_end = k.master_end;
      slave_end = k.slave_end;
      default_last = λ h. absurd (t.slave_there (omega (arith, h)));
    }

pub sound_item : (r : Reading) (x : Item) → item_refusal r x ≡ 0 → Sound r.board → Sound (with_item r.board x)
unfolding item_refusal with_item
sound_item r Malformed e k = absurd (omega arith)
sound_item r (MasterLine w u) e k = sound_master r.board w u e k
sound_item r (SlaveLine n) e k = sound_slave r.board (ltb 0 r.above) n e k
sound_item r (ShareLine m s n) e k = sound_share r.board r.above m s n e k
sound_item r DefaultLine e k = sound_default r.board e k

-- a line, lines or an end that is not refused
pub step_accepted : (r : Reading) (x : Item) → (step r x).number ≡ 0
    → (r.number ≡ 0) × (item_refusal r x ≡ 0) × (step r x ≡ taken r x)
unfolding step refused
step_accepted r x e = go (eqb r.number 0) refl (eqb (item_refusal r x) 0) refl e
  where
    go : (c : Bool) → eqb r.number 0 ≡ c → (d : Bool) → eqb (item_refusal r x) 0 ≡ d
        → (cond c (cond d (taken r x) (refused (item_refusal r x))) r).number ≡ 0
        → (r.number ≡ 0) × (item_refusal r x ≡ 0) × (cond c (cond d (taken r x) (refused (item_refusal r x))) r ≡ taken r x)
    go true p true q e = (eqb-true _ _ p, eqb-true _ _ q, refl)
    go true p false q e = absurd (eqb-false _ _ q e)
    go false p d q e = absurd (eqb-false _ _ p e)

pub run_accepted : (r : Reading) (xs : List Item) → (step_all r xs).number ≡ 0 → r.number ≡ 0
unfolding step_all
run_accepted r [] e = e
run_accepted r (x ∷ xs) e = (step_accepted r x (run_accepted (step r x) xs e)).0

pub finish_accepted : (r : Reading) → (finish r).number ≡ 0
    → (r.number ≡ 0) × (end_refusal r.board ≡ 0) × (finish r ≡ r)
unfolding finish refused
finish_accepted r e = go (eqb r.number 0) refl (eqb (end_refusal r.board) 0) refl e
  where
    n : ℕ
    n = end_refusal r.board

    go : (c : Bool) → eqb r.number 0 ≡ c → (d : Bool) → eqb n 0 ≡ d → (cond c (cond d r (refused n)) r).number ≡ 0
        → (r.number ≡ 0) × (n ≡ 0) × (cond c (cond d r (refused n)) r ≡ r)
    go true p true q e = (e, eqb-true _ _ q, refl)
    go true p false q e = absurd (eqb-false _ _ q e)
    go false p d q e = absurd (eqb-false _ _ p e)

-- lines one after another, from a sound board on
sound_run : (r : Reading) (xs : List Item) → (step_all r xs).number ≡ 0 → Sound r.board → Sound (step_all r xs).board
unfolding step_all taken
sound_run r [] e k = k
sound_run r (x ∷ xs) e k =
    let a = step_accepted r x (run_accepted (step r x) xs e) in
    sound_run (step r x) xs e (rw a.2 (sound_item r x a.1 k))

-- so the board of a description is sound, and legal
module _ (xs : List Item) (e : (described xs).number ≡ 0) where
  pub described_sound : Sound (described xs).board
  unfolding described start refused
  described_sound =
      let a = finish_accepted (step_all start xs) e in
      rw a.2 (sound_run start xs a.0 sound_start)

  pub described_legal : Legal (described xs).board
  unfolding described
  described_legal =
      let a = finish_accepted (step_all start xs) e in
      let t : EndTaken (described xs).board = end_taken _ (rw a.2 a.1) in
      let m = t.some_master in
      let s = t.some_slave in
      let k = described_sound in
      record {
        some_master = omega arith;
        few_masters = k.few_masters;
        some_slave = omega arith;
        few_slaves = k.few_slaves;
        master = k.master;
        slave = k.slave;
        apart = k.apart;
        total = k.total;
        shares = k.shares;
        wide = k.wide;
        connects = t.connects;
      }
