-- The lines of a description: what each is refused for (rules 7.1 to 7.7, 7.19, 7.21), the board with the line added, and what is
-- refused at the end (rules 7.2, 7.20).
-- Assumes nothing.
use Rattle.std.specs.Prelude.{Bool, true, false, cond, not, ◌&&◌, ◌||◌, List, [], ◌∷◌, ℕ, ◌+◌, ◌*◌, ◌%◌, leb, ltb, eqb, take, set}
use Rattle.common_laws.specs.Lists.{member, some, first}
use Rattle.description_board.specs.declared.Master.{Master}
use Rattle.description_board.specs.Records.{Slave, SlaveNumbers}
use Rattle.description_board.specs.declared.Board.{Board}
use Rattle.description_board.specs.declared.Item.{Item}
use Rattle.description_board.specs.declared.Item.TheVariants.{Malformed, MasterLine, SlaveLine, ShareLine, DefaultLine}
use Rattle.description_board.specs.declared.Reading.{Reading}
use Rattle.description_board.specs.Records.{no_board, is_native, master_at, slave_at, shares_at, connected, total_span}

-- rule 1.6: the legal widths
abbrev pub widths : List ℕ
widths = 1 ∷ 2 ∷ 4 ∷ 8 ∷ []

-- rule 1.6: the legal bursts
abbrev pub bursts : List ℕ
bursts = 1 ∷ 2 ∷ 4 ∷ 8 ∷ 16 ∷ 32 ∷ 64 ∷ []

-- rule 1.6: the legal spans
abbrev pub spans : List ℕ
spans = 8 ∷ 16 ∷ 32 ∷ 64 ∷ 128 ∷ 256 ∷ 512 ∷ 1024 ∷ 2048 ∷ 4096 ∷ 8192 ∷ 16384 ∷ 32768 ∷ 65536 ∷ []

-- rule 1.6: every value of a slave line is in its list or range
unfoldable pub slave_values : SlaveNumbers → Bool
slave_values n =
    leb n.base 4294967295
    && (member n.span spans
    && (member n.width widths
    && (member n.burst bursts
    && (leb n.read_wait 255
    && (leb n.write_wait 255 && (leb n.native 1 && leb n.latency 63))))))

-- rule 1.7: the span at base and the span of slave s have an address in common
unfoldable pub meets : ℕ → ℕ → Slave → Bool
meets base span s = ltb base (s.base + s.span) && ltb s.base (base + span)

-- rules 1.7, 7.5: the span at base has an address in common with one of these slaves
unfoldable pub overlaps : ℕ → ℕ → List Slave → Bool
overlaps base span [] = false
overlaps base span (s ∷ ss) = meets base span s || overlaps base span ss

-- rules 1.1, 1.4, 1.6, 7.2, 7.3 at a master line. 2: behind a slave line, and so behind the line `default`, or over the count of 8.
-- 3: a value that is not in its list.
unfoldable pub master_refusal : Board → ℕ → ℕ → ℕ
master_refusal b width burst =
    cond (ltb 0 b.slave_count || leb 8 b.master_count) 2
    (cond (not (member width widths && member burst bursts)) 3
    0)

-- rules 1.1, 1.4, 1.7, 7.2 to 7.6 at a slave line. 2: no master before it, behind a share line or `default`, or over the count of 16.
-- 3: a value that is not in its list or range. 4: the base; a remainder by 0 is the number itself, but 3 comes first for a span of 0.
-- 5: an address in common with an earlier slave. 6: the total of the spans.
unfoldable pub slave_refusal : Board → Bool → SlaveNumbers → ℕ
slave_refusal b sharing n =
    cond (eqb b.master_count 0 || (sharing || (b.default_line || leb 16 b.slave_count))) 2
    (cond (not (slave_values n)) 3
    (cond (not (eqb (n.base % n.span) 0)) 4
    (cond (overlaps n.base n.span (take b.slave_count b.slaves)) 5
    (cond (ltb 65536 (total_span (take b.slave_count b.slaves) + n.span)) 6
    0))))

-- rule 7.19: the slave has native alignment, and the master is narrower
unfoldable pub too_narrow : Master → Slave → Bool
too_narrow m s = is_native s && ltb m.width s.width

-- rules 1.4, 1.9: the rank of the pair of master m and slave s, from 1, by master, then slave; the numbers of slaves are below 16
unfoldable pub pair_rank : ℕ → ℕ → ℕ
pair_rank m s = 16 * m + s + 1

-- rules 1.4, 1.6, 1.8, 7.2, 7.3, 7.7, 7.19, 7.21 at a share line; above is the rank of the pair on the line above, 0 where that is
-- no share line. 2: no slave before it, or behind `default`. 3: the shares. 7: no such master or slave, or the pair a second time.
-- 19: a master that is too narrow. 21: the pair comes before the pair above.
unfoldable pub share_refusal : Board → ℕ → ℕ → ℕ → ℕ → ℕ
share_refusal b above m s shares =
    cond (eqb b.slave_count 0 || b.default_line) 2
    (cond (ltb shares 1 || ltb 100 shares) 3
    (cond (leb b.master_count m || (leb b.slave_count s || ltb 0 (shares_at b m s))) 7
    (cond (too_narrow (master_at b m) (slave_at b s)) 19
    (cond (ltb (pair_rank m s) above) 21
    0))))

-- rules 1.4, 7.2 at the line `default`. 2: no slave before it, or a second one.
unfoldable pub default_refusal : Board → ℕ
default_refusal b = cond (eqb b.slave_count 0 || b.default_line) 2 0

-- rules 7.1 to 7.7, 7.19, 7.21, 8.2: what a line is refused for after what has been read, by its lowest number, or 0
unfoldable pub item_refusal : Reading → Item → ℕ
item_refusal r Malformed = 1
item_refusal r (MasterLine width burst) = master_refusal r.board width burst
item_refusal r (SlaveLine n) = slave_refusal r.board (ltb 0 r.above) n
item_refusal r (ShareLine m s shares) = share_refusal r.board r.above m s shares
item_refusal r DefaultLine = default_refusal r.board

-- rule 1.1: the board with one master more. `set` changes no list past its end; 2 comes first for a line over the count.
unfoldable pub with_master : Board → ℕ → ℕ → Board
with_master b w u = record {
  master_count = b.master_count + 1;
  slave_count = b.slave_count;
  masters = set b.masters b.master_count (record { width = w; burst = u });
  slaves = b.slaves;
  shares = b.shares;
  default_line = b.default_line;
}

-- rule 1.3: `slave,base,span,width,burst,readwait,writewait,native,latency`, the slave of a line
abbrev pub slave_of : SlaveNumbers → Slave
slave_of n = record {
  base = n.base;
  span = n.span;
  width = n.width;
  burst = n.burst;
  read_wait = n.read_wait;
  write_wait = n.write_wait;
  native = n.native;
  latency = n.latency;
}

-- rule 1.1: the board with one slave more
unfoldable pub with_slave : Board → Slave → Board
with_slave b s = record {
  master_count = b.master_count;
  slave_count = b.slave_count + 1;
  masters = b.masters;
  slaves = set b.slaves b.slave_count s;
  shares = b.shares;
  default_line = b.default_line;
}

-- rule 1.8: the board with one pair more connected
unfoldable pub with_share : Board → ℕ → ℕ → ℕ → Board
with_share b m s n = record {
  master_count = b.master_count;
  slave_count = b.slave_count;
  masters = b.masters;
  slaves = b.slaves;
  shares = set b.shares (16 * m + s) n;
  default_line = b.default_line;
}

-- rule 1.11: the board with the line `default`
unfoldable pub with_default : Board → Board
with_default b = record {
  master_count = b.master_count;
  slave_count = b.slave_count;
  masters = b.masters;
  slaves = b.slaves;
  shares = b.shares;
  default_line = true;
}

-- rules 1.1, 1.8, 1.11: the board with the line of a description added
unfoldable pub with_item : Board → Item → Board
with_item b Malformed = b
with_item b (MasterLine w u) = with_master b w u
with_item b (SlaveLine n) = with_slave b (slave_of n)
with_item b (ShareLine m s n) = with_share b m s n
with_item b DefaultLine = with_default b

-- rule 1.4: the rank of a share line's pair, which no slave line and no pair before it may follow; 0 of a line of another kind
unfoldable pub rank_of : Item → ℕ
rank_of Malformed = 0
rank_of (MasterLine w u) = 0
rank_of (SlaveLine n) = 0
rank_of (ShareLine m s n) = pair_rank m s
rank_of DefaultLine = 0

-- rule 8.1: a refusal: its number, and a board of zeros
unfoldable pub refused : ℕ → Reading
refused n = record { number = n; above = 0; board = no_board }

-- rule 8.2: before the first line
unfoldable pub start : Reading
start = refused 0

-- rule 8.2: the line is taken
unfoldable pub taken : Reading → Item → Reading
taken r x = record { number = 0; above = rank_of x; board = with_item r.board x }

-- rule 8.2: one line more, judged after those before it; a refusal stays
unfoldable pub step : Reading → Item → Reading
step r x = cond (eqb r.number 0) (cond (eqb (item_refusal r x) 0) (taken r x) (refused (item_refusal r x))) r

-- rule 8.2: the lines one after another
unfoldable pub step_all : Reading → List Item → Reading
step_all r [] = r
step_all r (x ∷ xs) = step_all (step r x) xs

-- rule 1.8: master m has a share line, and so a slave that it is connected to; the numbers of slaves are below 16
unfoldable pub has_share : Board → ℕ → Bool
has_share b m = some (connected b m) 16

-- rules 7.20, 8.3: the lowest master that has no share line; the count of masters where each of them has one
unfoldable pub without_share : Board → ℕ
without_share b = first (λ m. not (has_share b m)) b.master_count

-- rules 1.1, 1.8, 7.2, 7.20, 8.2 behind the last line. 2: no master or no slave. 20: a master that has no share line.
unfoldable pub end_refusal : Board → ℕ
end_refusal b =
    cond (eqb b.master_count 0 || eqb b.slave_count 0) 2
    (cond (ltb (without_share b) b.master_count) 20
    0)

-- rule 8.2: after all lines, what is missing; a refusal stays
unfoldable pub finish : Reading → Reading
finish r = cond (eqb r.number 0) (cond (eqb (end_refusal r.board) 0) r (refused (end_refusal r.board))) r

-- rule 8.2: a description's lines: the first refusal with a zero board, or 0 and the board
unfoldable pub described : List Item → Reading
described xs = finish (step_all start xs)
