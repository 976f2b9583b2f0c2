use Rattle.table.proofs.Sheets.{sheets_hold}
use Rattle.table.proofs.Tests.{tests_hold}
use Rattle.table.proofs.making.sheet_boards.Goals as goal

pub returns : goal.returns
returns c = record { test = tests_hold; sheets = sheets_hold }
