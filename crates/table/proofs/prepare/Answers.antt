use Rattle.std.proofs.Common.{rules, ◌<◌, length, take}
use Rattle.description.specs.Reader.{most_bytes}
use Rattle.wait_table.proofs.PrintLaws.{page_begins}
use Rattle.table.proofs.PrepareLaws.{none_made, page_made}
use Rattle.table.proofs.prepare.Goals as goal

pub returns-in-Failed : goal.returns-in-Failed
returns-in-Failed g c = none_made c.read_all-got.ensures c.in-Failed.error c.in-Failed.is

pub returns-in-Full : goal.returns-in-Full
returns-in-Full g c =
    let room : most_bytes < length c.read_all-got.new.into = search rules in
    page_made
    c.read_all-got.ensures
    room
    c.in-Full.is
    (page_begins (take c.read_all-got.result.end c.read_all-got.new.into) _ _ _ (c.print_page.ensures.answer, c.print_page.ensures.output))
