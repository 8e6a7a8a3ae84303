-- What was read is the whole of the input, or too long to be a description; or a read failed, and no page is made.
-- Assumes nothing.
use Rattle.std.proofs.Common.{List, ◌⊎◌, inl, inr, ◌≢◌, ◌≡◌, ap, sym, subst, ◌∙◌, ℕ, ◌<◌, arith, length, take, Ok, Err}
use Rattle.std.specs.declared.io.Error.{Error}
use Rattle.program_streams.specs.declared.Got.{Got}
use Rattle.program_streams.specs.declared.Outcome.{Outcome}
use Rattle.program_streams.specs.declared.Outcome.TheVariants.{Full, Ended, Failed}
use Rattle.program_streams.specs.Reading.{gathered, ended, standing, Says, Gathered}
use Rattle.description.specs.Reader.{most_bytes}
use Rattle.wait_table.specs.Tables.{printed, Begins}
use Rattle.table.specs.Preparing.{Reads}

module _ {text : List ℕ} {g : Got} (x : Gathered text g) where
  -- what the outcome says, once it is known
  said : {o : Outcome} → g.outcome ≡ o → Says o (standing x.answers) (length x.answers) g.end (length text)
  said e = subst (λ (o : Outcome). Says o (standing x.answers) (length x.answers) g.end (length text)) e x.says

  not_ended : (error : Error) → g.outcome ≡ Failed error → standing x.answers ≢ ended
  unfolding Says
  not_ended error bad e = elim (said bad) [ inl p ↦ absurd (cc) | inr q ↦ let h = q.0 in absurd (cc) ]

  -- nothing is claimed of the page after a read that failed, and its error is handed on
  pub none_made : (error : Error) → g.outcome ≡ Failed error → {page : List ℕ}
      → Reads text page (record { read = g.end; page = Err error })
  none_made error bad = record {
    answers = x.answers;
    bytes = x.handed;
    made = (not_ended error bad, said bad);
    kept = x.fits;
  }

  -- the bytes that were read are all of the input, or fill the room
  all_ended : g.outcome ≡ Ended → (standing x.answers ≡ ended) ⊎ (most_bytes < length (gathered x.answers))
  unfolding Says
  all_ended e = inl (said e)

  all_full : most_bytes < length text → g.outcome ≡ Full → (standing x.answers ≡ ended) ⊎ (most_bytes < length (gathered x.answers))
  unfolding Says
  all_full room e = let full = (said e).1 in inr (omega (arith, full, x.fits.1, ap length x.handed))

  pub page_made : most_bytes < length text → (g.outcome ≡ Full) ⊎ (g.outcome ≡ Ended) → {page : List ℕ} {n : ℕ}
      → Begins (printed (take g.end text)) page n → Reads text page (record { read = g.end; page = Ok n })
  page_made room fine p = record {
    answers = x.answers;
    bytes = x.handed;
    made = (
      record {
        all = elim fine [ inl e ↦ all_full room e | inr e ↦ all_ended e ];
        front = p.front ∙ ap printed x.handed;
      },
      (p.within, p.counted),
    );
    kept = x.fits;
  }
