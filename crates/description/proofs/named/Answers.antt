-- `description::named` meets its contract. By whether the refusal is 20.
-- Assumes nothing.
use Rattle.std.proofs.Common.{refl}
use borrow.Author.Tests.{ne_eqb}
use Rattle.common_numbers.specs.Refusals.{refusal_number}
use Rattle.common_numbers.specs.declared.Refusal.TheVariants.{NoShare}
use Rattle.common_numbers.proofs.RefusalLaws.{same_refusal}
use Rattle.description.specs.Code.Reading.{named}
use Rattle.description.proofs.named.Goals as goal

pub returns-in-NoShare : goal.returns-in-NoShare
unfolding named
returns-in-NoShare c = rw c.in-NoShare.is refl

pub returns-in_default : goal.returns-in_default
unfolding named
returns-in_default c =
    let e = c.args.refusal in
    rw (ne_eqb (refusal_number e) 20 (λ h. c.in_default.not-NoShare (same_refusal e NoShare h)))
