use Rattle.mm_format.specs.Images.{image}
use Rattle.mm_format.proofs.{Files.{round_trips, one_to_one}, Images.image_is, ImagesFit.{image_fits, fits_image}}
use Rattle.mm_format.proofs.laws.image_is_a_format.Goals as goal

pub returns-clause-format : goal.returns-clause-format
returns-clause-format c = image_is

pub returns-clause-round_trip : goal.returns-clause-round_trip
returns-clause-round_trip c = round_trips image image_is

pub returns-clause-one_to_one : goal.returns-clause-one_to_one
returns-clause-one_to_one c = one_to_one image image_is

pub returns-clause-fits : goal.returns-clause-fits
returns-clause-fits c = λ i. (image_fits i, fits_image i)
