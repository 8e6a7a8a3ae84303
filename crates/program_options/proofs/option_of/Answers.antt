use Rattle.common_laws.specs.Bytes.{bytes_of}
use Rattle.program_options.proofs.OptionLaws.{same_as, option_help, option_version, option_end, option_unknown}
use Rattle.program_options.proofs.option_of.Goals as goal

pub returns-then-eq : goal.returns-then-eq
unfolding bytes_of
returns-then-eq c =
    option_help _ (same_as _ _ c.eq.ensures c.as_slice.ensures) (same_as _ _ c.eq-2.ensures c.as_slice-2.ensures) c.if-eq.true

pub returns-then-eq-2 : goal.returns-then-eq-2
unfolding bytes_of
returns-then-eq-2 c =
    option_version
    _
    (same_as _ _ c.eq.ensures c.as_slice.ensures)
    (same_as _ _ c.eq-2.ensures c.as_slice-2.ensures)
    c.if-eq.false
    (same_as _ _ c.eq-else-eq.ensures c.as_slice-else-eq.ensures)
    c.if-eq-2.true

pub returns-then-eq-3 : goal.returns-then-eq-3
unfolding bytes_of
returns-then-eq-3 c =
    option_end
    _
    (same_as _ _ c.eq.ensures c.as_slice.ensures)
    (same_as _ _ c.eq-2.ensures c.as_slice-2.ensures)
    c.if-eq.false
    (same_as _ _ c.eq-else-eq.ensures c.as_slice-else-eq.ensures)
    c.if-eq-2.false
    (same_as _ _ c.eq-else-eq-2.ensures c.as_slice-else-eq-2.ensures)
    c.if-eq-3.true

pub returns-else-eq-3 : goal.returns-else-eq-3
unfolding bytes_of
returns-else-eq-3 c =
    option_unknown
    _
    (same_as _ _ c.eq.ensures c.as_slice.ensures)
    (same_as _ _ c.eq-2.ensures c.as_slice-2.ensures)
    c.if-eq.false
    (same_as _ _ c.eq-else-eq.ensures c.as_slice-else-eq.ensures)
    c.if-eq-2.false
    (same_as _ _ c.eq-else-eq-2.ensures c.as_slice-else-eq-2.ensures)
    c.if-eq-3.false
