-- What the words of a command line ask for.
use Rattle.std.specs.Prelude.{ℕ, ◌≡◌, ◌≤◌, ◌==◌, List, [], ◌∷◌, ◌++◌, length, map, codes, String, string_bytes, IsTrue, Option, None, Some, unwrap_or, if◌then◌else◌}
use Rattle.std.specs.List.{flat_map, AllByRecursion}
use Rattle.cls_base.specs.Lists.{AreDistinct}
use Rattle.cls_lexer.specs.Numerals.{is_numeral, number_value}
use Rattle.cls_engine.specs.declared.options.Options.{Options}
use Rattle.cls_session.specs.declared.settings.OptionName.{OptionName}
use Rattle.cls_session.specs.declared.settings.OptionName.TheVariants.{Workers, MaxGoals, MaxRules, Pool}
use Rattle.cls_session.specs.declared.words.Command.{Command}
use Rattle.cls_session.specs.declared.words.Command.TheVariants as command
use Rattle.cls_replies.specs.Texts.{reply_line}

-- what each word says
abbrev pub texts_of : {A : Type 0} → List (String A) → List (List ℕ)
texts_of words = map string_bytes words

-- the word of the option
abbrev pub option_word : OptionName → List ℕ
option_word Workers = codes "--workers"
option_word MaxGoals = codes "--max-goals"
option_word MaxRules = codes "--max-rules"
option_word Pool = codes "--pool"

-- its greatest value
abbrev pub greatest : OptionName → ℕ
greatest Workers = 64
greatest MaxGoals = 20000
greatest MaxRules = 1000000
greatest Pool = 1000000

-- its value if it isn't set
abbrev pub default : OptionName → ℕ
default Workers = 4
default MaxGoals = 5000
default MaxRules = 200000
default Pool = 200000

-- its place in the usage line, from 0, by which options are told apart
abbrev pub place : OptionName → ℕ
place Workers = 0
place MaxGoals = 1
place MaxRules = 2
place Pool = 3

-- One to nine decimal digits that spell a number from 1 to the greatest.
pub record IsValue (most : ℕ) (word : List ℕ) : Type 0 where
  pub digits : IsTrue (is_numeral word)
  pub short : length word ≤ 9
  pub some : 1 ≤ number_value word
  pub within : number_value word ≤ most

-- An option, and the word of its value.
pub record Setting : Type 0 where
  pub option : OptionName
  pub value : List ℕ

-- the two words of a setting
abbrev pub setting_words : Setting → List (List ℕ)
setting_words s = option_word s.option ∷ s.value ∷ []

-- the value that is set for the option, if one is
abbrev pub value_set : List Setting → OptionName → Option ℕ
value_set [] n = None
value_set (s ∷ settings) n = if place s.option == place n then Some (number_value s.value) else value_set settings n

-- the value of the option
abbrev pub value_in : List Setting → OptionName → ℕ
value_in settings n = unwrap_or (value_set settings n) (default n)

-- the values of all options
abbrev pub options_in : List Setting → Options
options_in settings = record {
  workers = value_in settings Workers;
  goals = value_in settings MaxGoals;
  rules = value_in settings MaxRules;
  pool = value_in settings Pool;
}

-- The words are settings one after another, in any order, each option at most once and each value within its range.
pub record SetsOptions (words : List (List ℕ)) (o : Options) : Type 0 where
  pub settings : List Setting
  pub spelled : words ≡ flat_map setting_words settings
  pub once : AreDistinct (map (λ s. s.option) settings)
  pub values : AllByRecursion (λ s. IsValue (greatest s.option) s.value) settings
  pub options : o ≡ options_in settings

-- the greatest number of a generator
abbrev pub max_generated : ℕ
max_generated = 300

-- The words are `generate` and a number from 1 to the greatest.
pub record IsGenerate (words : List (List ℕ)) (n : ℕ) : Type 0 where
  pub value : List ℕ
  pub spelled : words ≡ codes "generate" ∷ value ∷ []
  pub within : IsValue max_generated value
  pub spells : n ≡ number_value value

-- The words set options, and the last two of them are `generate` and a number.
pub record AsksGenerator (words : List (List ℕ)) (o : Options) (n : ℕ) : Type 0 where
  pub first : List (List ℕ)
  pub last : List (List ℕ)
  pub split : words ≡ first ++ last
  pub sets : SetsOptions first o
  pub generate : IsGenerate last n

-- The words ask for the command.
abbrev pub Asks : List (List ℕ) → Command → Type 0
Asks words (command.Session o) = SetsOptions words o
Asks words (command.Generate o n) = AsksGenerator words o n

-- They ask for a session over the input.
abbrev pub AsksSession : List (List ℕ) → Type 0
AsksSession words = (o : Options) × Asks words (command.Session o)

-- They ask for no command.
abbrev pub AsksNothing : List (List ℕ) → Type 0
AsksNothing words = (c : Command) → Asks words c → ⊥

-- The number is from 1 to the greatest value of the option.
abbrev pub IsInRange : OptionName → ℕ → Type 0
IsInRange n value = (1 ≤ value) × (value ≤ greatest n)

-- Each option is within its range.
pub record AreInRange (o : Options) : Type 0 where
  pub workers : IsInRange Workers o.workers
  pub goals : IsInRange MaxGoals o.goals
  pub rules : IsInRange MaxRules o.rules
  pub pool : IsInRange Pool o.pool

-- The options of the command are within their ranges, and so is its number.
abbrev pub HasNumbersInRange : Command → Type 0
HasNumbersInRange (command.Session o) = AreInRange o
HasNumbersInRange (command.Generate o n) = AreInRange o × (1 ≤ n) × (n ≤ max_generated)

-- Words ask for at most one command, and with numbers that are within their ranges.
pub record CommandsAreOne : Type 0 where
  pub one : (words : List (List ℕ)) (c d : Command) → Asks words c → Asks words d → c ≡ d
  pub in_range : (words : List (List ℕ)) (c : Command) → Asks words c → HasNumbersInRange c

-- the usage line
abbrev pub usage : List ℕ
usage = reply_line (codes "usage: clsynth [--workers N] [--max-goals N] [--max-rules N] [--pool N] [generate N]")
