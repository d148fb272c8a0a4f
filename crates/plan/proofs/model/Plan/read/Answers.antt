use Rattle.records.specs.Gathering.{gathered}
use Rattle.board.proofs.Law.{read_is_written, law_of_reading}
use Rattle.plan.proofs.model.Plan.read.Goals as goal

pub returns-in_err-numbers-clause-law : goal.returns-in_err-numbers-clause-law
returns-in_err-numbers-clause-law c = law_of_reading

pub keep-requires : goal.keep-requires
keep-requires c = (read_is_written c.args.words.now (gathered c.in_ok-numbers.numbers) c.in_ok-numbers.ensures).0

pub returns-in_err-keep-clause-law : goal.returns-in_err-keep-clause-law
returns-in_err-keep-clause-law c = law_of_reading

pub returns-clause-law : goal.returns-clause-law
returns-clause-law c = law_of_reading
