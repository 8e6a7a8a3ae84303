-- `description_lines::item_of` meets its contract: the first word that the first field is, the line `default`, or none. Assumes
-- nothing.
use mathlib.Core.Path.{ap, sym, ◌∙◌}
use lib.Seq.{length-take-le}
use Rattle.common_laws.specs.Bytes.{bytes_of}
use Rattle.common_laws.proofs.TextLists.{same_lent}
use Rattle.description_lines.specs.Reader.{master_line, slave_line, share_line}
use Rattle.description_lines.proofs.ReadLaws.{item_master, item_slave, item_share, item_default, item_unknown}
use Rattle.description_lines.proofs.item_of.Goals as goal

pub slice_bounds-word-end : goal.slice_bounds-word-end
slice_bounds-word-end c = sym (length-take-le _ _ c.find_byte-e.ensures.within)

pub returns-then-eq : goal.returns-then-eq
unfolding bytes_of
returns-then-eq c =
    c.master_line.ensures ∙ ap master_line c.numbers_behind-ns.ensures
    ∙ sym (item_master _ _ c.find_byte-e.ensures (same_lent _ _ _ _ c.eq.ensures c.as_slice.ensures) c.if-eq.true)

pub returns-then-eq-2 : goal.returns-then-eq-2
unfolding bytes_of
returns-then-eq-2 c =
    c.slave_line.ensures ∙ ap slave_line c.numbers_behind-ns.ensures
    ∙ sym
    (item_slave _ _ c.find_byte-e.ensures (same_lent _ _ _ _ c.eq.ensures c.as_slice.ensures) c.if-eq.false (same_lent _ _ _ _ c.eq-2.ensures c.as_slice-2.ensures)
    c.if-eq-2.true)

pub returns-then-eq-3 : goal.returns-then-eq-3
unfolding bytes_of
returns-then-eq-3 c =
    c.share_line.ensures ∙ ap share_line c.numbers_behind-ns.ensures
    ∙ sym
    (item_share _ _ c.find_byte-e.ensures (same_lent _ _ _ _ c.eq.ensures c.as_slice.ensures) c.if-eq.false (same_lent _ _ _ _ c.eq-2.ensures c.as_slice-2.ensures)
    c.if-eq-2.false (same_lent _ _ _ _ c.eq-3.ensures c.as_slice-3.ensures) c.if-eq-3.true)

pub returns-then-eq-4 : goal.returns-then-eq-4
unfolding bytes_of
returns-then-eq-4 c =
    sym
    (item_default _ _ c.find_byte-e.ensures (same_lent _ _ _ _ c.eq.ensures c.as_slice.ensures) c.if-eq.false (same_lent _ _ _ _ c.eq-2.ensures c.as_slice-2.ensures)
    c.if-eq-2.false (same_lent _ _ _ _ c.eq-3.ensures c.as_slice-3.ensures) c.if-eq-3.false (same_lent _ _ _ _ c.eq-4.ensures c.as_slice-4.ensures) c.if-eq-4.true)

pub returns : goal.returns
unfolding bytes_of
returns c =
    sym
    (item_unknown _ _ c.find_byte-e.ensures (same_lent _ _ _ _ c.eq.ensures c.as_slice.ensures) c.if-eq.false (same_lent _ _ _ _ c.eq-2.ensures c.as_slice-2.ensures)
    c.if-eq-2.false (same_lent _ _ _ _ c.eq-3.ensures c.as_slice-3.ensures) c.if-eq-3.false (same_lent _ _ _ _ c.eq-4.ensures c.as_slice-4.ensures) c.if-eq-4.false)
