use Rattle.mm_format.{specs.Headers.header, proofs.{Files.{round_trips, one_to_one}, Headers.header_is}}
use Rattle.mm_format.proofs.laws.header_is_a_format.Goals as goal

pub returns-clause-format : goal.returns-clause-format
returns-clause-format c = header_is

pub returns-clause-round_trip : goal.returns-clause-round_trip
returns-clause-round_trip c = round_trips header header_is

pub returns-clause-one_to_one : goal.returns-clause-one_to_one
returns-clause-one_to_one c = one_to_one header header_is
