-- The laws of repositories.
use Rattle.cls_repo.specs.Laws.{LinesSayOneThing, ReadingsAreDetermined, FaultsAreDetermined, RepositoriesHaveNoFault}
use Rattle.cls_repo.specs.Readings.{no_reading}
use Rattle.cls_repo.proofs.OneReading.{says_one, takes_all_one, first_fault_one, closing_of}

pub lines_say_one_thing : LinesSayOneThing
lines_say_one_thing line said again p q = says_one line said again p q

pub readings_are_determined : ReadingsAreDetermined
readings_are_determined old lines new again p q = takes_all_one old lines new again p q

pub faults_are_determined : FaultsAreDetermined
faults_are_determined old lines = first_fault_one old lines

pub repositories_have_no_fault : RepositoriesHaveNoFault
repositories_have_no_fault lines repository said is fault = is.silent said (closing_of no_reading lines is.reading said is.taken fault)
