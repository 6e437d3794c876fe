use Rattle.csv.specs.Reading.{default_config}
use Rattle.csv_records.proofs.OneList.{all_records}
use Rattle.csv_records.proofs.laws.text_has_one_list_of_records.Goals as goal

pub returns : goal.returns
returns c = all_records default_config
