-- `common_text::Writer::put_bytes` meets its contract: the text is copied into its part. Assumes nothing.
use mathlib.Core.Path.{refl}
use native.Mathlib.Omega.{arith}
use Rattle.common_text.proofs.Puts.{put_part}
use Rattle.common_text.proofs.Writer.put_bytes.Goals as goal

pub returns : goal.returns
returns c =
    record { put = put_part _ _ c.args.self.now.at _ _ c.copy_from_slice.ensures.after (omega arith) c.requires; same = refl }
