use Rattle.std.proofs.Common.{refl}
use Rattle.lane.specs.Claims.{counted}
use Rattle.cases.specs.Worked.{WorkedCases}
use Rattle.cases.proofs.two_task.Goals as goal

worked : WorkedCases
unfolding counted
worked = record {
  file = refl;
  reads = refl;
  empty_file = refl;
  one_byte = refl;
  full_slot = refl;
  one_more = refl;
  exec_lengths = (refl, refl);
  transfer_lengths = refl;
  needs = (refl, refl);
  timetable = refl;
  loads = refl;
  new_totals = refl;
  begun_totals = refl;
  built_totals = refl;
  hasty_totals = refl;
  apart_totals = refl;
  cramped_totals = refl;
}

pub returns-clause-cases : goal.returns-clause-cases
returns-clause-cases c = worked
