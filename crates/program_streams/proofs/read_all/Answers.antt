use Rattle.std.proofs.Common.{arith, refl, ◌∙◌}
use Rattle.program_streams.specs.declared.Told.{Told}
use Rattle.program_streams.proofs.ReadLaws.{reached_none, reached_told, length_with, over_ended, over_failed, over_spent, over_full}
use Rattle.program_streams.proofs.read_all.Goals.{in-Bytes, in-Again, in-Later, else-loop-test, then-loop-test+then-into-end}
use Rattle.program_streams.proofs.read_all.Goals as goal

pub loop-init : goal.loop-init
loop-init g c = record { kept = refl; reached = reached_none _ }

pub overflow_add-end : goal.overflow_add-end
overflow_add-end g c =
    let r = reached_told _ _ _ _ c.loop.invariant.reached (omega arith) c.read_once.auto.room _ _ c.read_once.ensures c.in-Bytes.is in
    let k = length_with c.loop.into c.loop.end c.read_once.new.room c.read_once.auto.room in
    omega (arith, r.within, k)

pub returns-in-Nothing : goal.returns-in-Nothing
returns-in-Nothing g c =
    over_ended
    _
    _
    _
    (reached_told _ _ _ _ c.loop.invariant.reached (omega arith) c.read_once.auto.room _ _ c.read_once.ensures c.in-Nothing.is)

pub returns-in-Failed : goal.returns-in-Failed
returns-in-Failed g c =
    over_failed
    _
    _
    _
    _
    (reached_told _ _ _ _ c.loop.invariant.reached (omega arith) c.read_once.auto.room _ _ c.read_once.ensures c.in-Failed.is)

pub loop-preserved : goal.loop-preserved
loop-preserved g c =
    let told = λ (t : Told). reached_told _ _ _ _ c.loop.invariant.reached (omega arith) c.read_once.auto.room _ t c.read_once.ensures in
    record {
      kept = length_with c.loop.into c.loop.end c.read_once.new.room c.read_once.auto.room ∙ c.loop.invariant.kept;
      reached =
          elim c.match-read_once.branch [
            | in-Bytes w ↦ rw w.end-is (told _ w.in-Bytes.is)
            | in-Again w ↦ rw w.end-is (told _ w.in-Again.is)
            | in-Later w ↦ rw w.end-is (told _ w.in-Later.is)
          ];
    }

pub returns-then-end-into : goal.returns-then-end-into
returns-then-end-into g c =
    elim c.loop-test.branch [
      | else-loop-test w ↦ over_spent _ _ _ _ c.loop.invariant.reached (omega (arith, w.loop-test.false))
      | then-loop-test+then-into-end w ↦ absurd (omega (arith, w.if-into-end.true, c.if-end-into.true))
    ]

pub returns : goal.returns
returns g c = over_full _ _ _ c.loop.invariant.reached (omega arith)
