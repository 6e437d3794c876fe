-- The acts of a made office as the lines of a batch.
use Rattle.std.specs.Prelude.{ℕ, List, [], ◌∷◌, ◌++◌, codes}
use Rattle.std.specs.List.{enumerate_from, flat_map}
use Rattle.serde_json.specs.Data.{Data, object, member, no_members}
use Rattle.serde_json.specs.Written.{compact_text}
use Rattle.json_form.specs.Written.{day_data, number_data}
use Rattle.command_forms.specs.Commands.{command_data}
use Rattle.generator.specs.{declared.act.MadeAct.MadeAct, Acts.made_acts}

-- a call of clerk 1, with its day; the names in their byte order
abbrev pub line_data : ℕ → MadeAct → Data
line_data request asked = object (
    member (codes "act") (command_data asked.command) (
    member (codes "clerk") (number_data 1) (
    member (codes "request") (number_data request) (
    member (codes "today") (day_data asked.day) no_members))))

-- compact JSON
abbrev pub made_line : ℕ × MadeAct → List ℕ
made_line numbered = compact_text (line_data numbered.0 numbered.1)

-- and a line end
abbrev pub line_text : ℕ × MadeAct → List ℕ
line_text numbered = made_line numbered ++ 10 ∷ []

-- with requests from 1 on
abbrev pub made_text : ℕ → List ℕ
made_text units = flat_map line_text (enumerate_from 1 (made_acts units))
