-- Lines that are not refused are the lines that the writer puts for their board (rules 1.4, 1.9, 7.21).
-- Assumes nothing.
use mathlib.Core.Path.{◌≡◌, refl, sym, ap, ◌∙◌}
use mathlib.Core.Bool.{false, true≢false}
use mathlib.Core.List.{List, [], ◌∷◌, ◌++◌, append_assoc, append-nil}
use mathlib.Core.Logic.{◌≢◌}
use Prim.Native.Nat.{ℕ, ◌+◌, ◌*◌, ◌/◌, ◌%◌, ◌≤◌, ◌<◌}
use native.Mathlib.Decide.{ℕ_discrete}
use native.Mathlib.Omega.{arith}
use lib.Dec.{ltb}
use lib.ListN.{length, get_or, set, replicate}
use lib.Seq.{get_or-set_same, get_or-set_other}
use borrow.Author.Tests.{ltb-false}
use Rattle.common_laws.specs.Lists.{gather, table}
use Rattle.common_laws.proofs.ListLaws.{gather_suc}
use Rattle.common_laws.proofs.FrontLaws.{gather_same, gather_end, table_more}
use Rattle.common_laws.proofs.TableLaws.{get_or_replicate_all}
use Rattle.description_board.specs.declared.Master.{Master}
use Rattle.description_board.specs.Records.{SlaveNumbers}
use Rattle.description_board.specs.declared.Board.{Board}
use Rattle.description_board.specs.declared.Item.{Item}
use Rattle.description_board.specs.declared.Item.TheVariants.{Malformed, MasterLine, SlaveLine, ShareLine, DefaultLine}
use Rattle.description_board.specs.declared.Reading.{Reading}
use Rattle.description_board.specs.Records.{no_master, no_slave, no_board, shares_at}
use Rattle.description_board.specs.Rules.{slave_of, pair_rank, rank_of, item_refusal}
use Rattle.description_board.specs.Rules.{with_master, with_slave, with_share, with_default, with_item}
use Rattle.description_board.specs.Rules.{refused, start, taken, step, step_all, described}
use Rattle.description_board.specs.Items.{master_item, slave_item, share_item, default_item, items}
use Rattle.description_board.proofs.RuleLaws.{master_taken, slave_taken, share_taken, default_taken}
use Rattle.description_board.proofs.ItemLaws.{line_none, line_some, line_same, default_none}
use Rattle.description_board.proofs.BoardSound.{Sound, sound_start, sound_item, step_accepted, run_accepted, finish_accepted}

-- no pair from index j on is connected
abbrev Unset : List ℕ → ℕ → Type 0
Unset shares j = (i : ℕ) → j ≤ i → i < 128 → get_or shares i 0 ≡ 0

pairs_none : (shares : List ℕ) → Unset shares 0 → gather (share_item shares) 128 ≡ []
unfolding gather
pairs_none shares unset = gather_end (share_item shares) 0 128 (omega arith) (λ i l m. line_none shares i (unset i l m))

-- the lines of a board to which a line is added
items_master : (b : Board) (w u : ℕ) → b.master_count < length b.masters → b.slave_count ≡ 0 → Unset b.shares 0
    → b.default_line ≡ false → items (with_master b w u) ≡ items b ++ (MasterLine w u ∷ [])
unfolding items with_master master_item table gather
items_master b w u room none unset first =
    let mc = b.master_count in
    let ms = b.masters in
    let new : Master = record { width = w; burst = u } in
    rw (none, pairs_none b.shares unset, default_none b.default_line first, append-nil, append-nil)
    (table_more (master_item (set ms mc new)) (master_item ms) mc (MasterLine w u)
    (λ i l. rw (get_or-set_other ms mc i new no_master (λ z. omega arith)))
    (rw (get_or-set_same ms mc new no_master room)))

items_slave : (b : Board) (n : SlaveNumbers) → b.slave_count < length b.slaves → Unset b.shares 0
    → b.default_line ≡ false → items (with_slave b (slave_of n)) ≡ items b ++ (SlaveLine n ∷ [])
unfolding items with_slave slave_item
items_slave b n room unset first =
    let sc = b.slave_count in
    let ss = b.slaves in
    rw (pairs_none b.shares unset, default_none b.default_line first, append-nil, append-nil, append_assoc)
    (ap (λ (l : List Item). table (master_item b.masters) b.master_count ++ l)
    (table_more (slave_item (set ss sc (slave_of n))) (slave_item ss) sc (SlaveLine n)
    (λ i l. rw (get_or-set_other ss sc i (slave_of n) no_slave (λ z. omega arith)))
    (rw (get_or-set_same ss sc (slave_of n) no_slave room))))

-- a pair behind the pairs connected so far
module _ (shares : List ℕ) (j n : ℕ) (some : n ≢ 0) (low : j < 128) (room : j < length shares) (unset : Unset shares j) where
  pair_same : (i : ℕ) → i ≢ j → share_item (set shares j n) i ≡ share_item shares i
  pair_same i e = line_same (set shares j n) shares i (get_or-set_other shares j i n 0 e)

  pair_new : share_item (set shares j n) j ≡ ShareLine (j / 16) (j % 16) n ∷ []
  pair_new =
      let new = get_or-set_same shares j n 0 room in
      rw new at (line_some (set shares j n) j (λ z. some (sym new ∙ z)))

  pairs_more : gather (share_item (set shares j n)) 128 ≡ gather (share_item shares) 128 ++ (ShareLine (j / 16) (j % 16) n ∷ [])
  pairs_more =
      let f = share_item shares in
      let g = share_item (set shares j n) in
      gather_end g (j + 1) 128 (omega arith)
      (λ i l m. pair_same i (λ z. omega arith) ∙ line_none shares i (unset i (omega arith) m))
      ∙ gather_suc g j
      ∙ rw (
        gather_same g f j (λ i l. pair_same i (λ z. omega arith)),
        pair_new,
        gather_end f j 128 (omega arith) (λ i l m. line_none shares i (unset i l m)),
      )

items_share : (b : Board) (m s n : ℕ) → n ≢ 0 → s < 16 → 16 * m + s < 128 → 16 * m + s < length b.shares
    → Unset b.shares (16 * m + s) → b.default_line ≡ false
    → items (with_share b m s n) ≡ items b ++ (ShareLine m s n ∷ [])
unfolding items with_share
items_share b m s n some column low room unset first =
    let row : (16 * m + s) / 16 ≡ m = omega arith in
    let rest : (16 * m + s) % 16 ≡ s = omega arith in
    let more = rw (row, rest) at (pairs_more b.shares (16 * m + s) n some low room unset) in
    rw (default_none b.default_line first, append-nil, append-nil, more, append_assoc, append_assoc)

items_default : (b : Board) → b.default_line ≡ false → items (with_default b) ≡ items b ++ (DefaultLine ∷ [])
unfolding items with_default default_item
items_default b first = rw (default_none b.default_line first, append-nil, append_assoc, append_assoc)

-- the lines xs are those of the board so far, and before the line `default` no pair from the rank of the pair above on is connected
record Own (xs : List Item) (r : Reading) : Type 0 where
  lines : items r.board ≡ xs
  sound : Sound r.board
  unset : r.board.default_line ≡ false → Unset r.board.shares r.above

-- before the first line
own_start : Own [] start
unfolding start refused no_board items table gather
own_start = record {
  lines = rw (pairs_none (replicate 128 0) (λ i l m. get_or_replicate_all 128 i 0), default_none false refl);
  sound = sound_start;
  unset = λ first i l m. get_or_replicate_all 128 i 0;
}

-- without a slave no pair is connected
unset_none : (b : Board) → Sound b → b.slave_count ≤ 0 → Unset b.shares 0
unset_none b k none i l m = go (ℕ_discrete (get_or b.shares i 0) 0)
  where
    go : Dec (get_or b.shares i 0 ≡ 0) → get_or b.shares i 0 ≡ 0
    go (yes e) = e
    go (no e) = absurd (omega (arith, (k.shares i m e).2))

-- a pair that has no line yet, and is not before the pair above: none from there on is connected
unset_behind : (b : Board) (above m s : ℕ) → shares_at b m s ≤ 0 → above ≤ pair_rank m s → Unset b.shares above
    → Unset b.shares (16 * m + s)
unfolding pair_rank
unset_behind b above m s free h unset i l n = go (ℕ_discrete i (16 * m + s))
  where
    go : Dec (i ≡ 16 * m + s) → get_or b.shares i 0 ≡ 0
    go (yes e) = rw e (omega arith)
    go (no e) = unset i (omega arith) n

-- one line more
module _ (xs : List Item) (r : Reading) (o : Own xs r) where
  own_lines : (x : Item) → item_refusal r x ≡ 0 → items (with_item r.board x) ≡ items r.board ++ (x ∷ [])
  unfolding item_refusal with_item
  own_lines Malformed e = absurd (omega arith)
  own_lines (MasterLine w u) e =
      let t = master_taken r.board w u e in
      let none = t.slaves_none in
      items_master r.board w u (omega (arith, t.room, o.sound.master_places)) (omega arith)
      (unset_none r.board o.sound none) (o.sound.default_last none)
  own_lines (SlaveLine n) e =
      let t = slave_taken r.board (ltb 0 r.above) n e in
      let first : r.above ≤ 0 = ltb-false _ _ t.before_shares in
      items_slave r.board n (omega (arith, t.room, o.sound.slave_places))
      (λ i l. o.unset t.before_default i (omega arith)) t.before_default
  own_lines (ShareLine m s n) e =
      let t = share_taken r.board r.above m s n e in
      let k = o.sound in
      let row : m < 8 = omega (arith, t.master_there, k.few_masters) in
      let column : s < 16 = omega (arith, t.slave_there, k.few_slaves) in
      items_share r.board m s n (λ z. omega (arith, t.low)) column (omega arith) (omega (arith, k.share_places))
      (unset_behind r.board r.above m s t.unset t.behind (o.unset t.before_default)) t.before_default
  own_lines DefaultLine e = items_default r.board (default_taken r.board e).before_default

  own_unset : (x : Item) → item_refusal r x ≡ 0 → (with_item r.board x).default_line ≡ false
      → Unset (with_item r.board x).shares (rank_of x)
  unfolding item_refusal with_item with_master with_slave with_share with_default rank_of pair_rank
  own_unset Malformed e d = absurd (omega arith)
  own_unset (MasterLine w u) e d = unset_none r.board o.sound (master_taken r.board w u e).slaves_none
  own_unset (SlaveLine n) e d =
      let first : r.above ≤ 0 = ltb-false _ _ (slave_taken r.board (ltb 0 r.above) n e).before_shares in
      λ i l. o.unset d i (omega arith)
  own_unset (ShareLine m s n) e d =
      let t = share_taken r.board r.above m s n e in
      λ i l h. get_or-set_other r.board.shares (16 * m + s) i n 0 (λ z. omega arith)
      ∙ unset_behind r.board r.above m s t.unset t.behind (o.unset d) i (omega arith) h
  own_unset DefaultLine e d = absurd (true≢false d)

  own_step : (x : Item) → item_refusal r x ≡ 0 → Own (xs ++ (x ∷ [])) (taken r x)
  unfolding taken
  own_step x e = record {
    lines = own_lines x e ∙ ap (λ (l : List Item). l ++ (x ∷ [])) o.lines;
    sound = sound_item r x e o.sound;
    unset = own_unset x e;
  }

-- all lines
own_run : (xs ys : List Item) (r : Reading) → Own xs r → (step_all r ys).number ≡ 0 → items (step_all r ys).board ≡ xs ++ ys
unfolding step_all
own_run xs [] r o e = o.lines ∙ sym (append-nil xs)
own_run xs (y ∷ ys) r o e =
    let a = step_accepted r y (run_accepted (step r y) ys e) in
    own_run (xs ++ (y ∷ [])) ys (step r y) (rw a.2 (own_step xs r o y a.1)) e ∙ append_assoc xs (y ∷ []) ys

-- so lines that are not refused are those of their board
pub lines_own : (xs : List Item) → (described xs).number ≡ 0 → items (described xs).board ≡ xs
unfolding described
lines_own xs e =
    let a = finish_accepted (step_all start xs) e in
    rw a.2 (own_run [] xs start own_start a.0)
