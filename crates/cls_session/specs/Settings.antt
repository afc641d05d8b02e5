-- internal: what the code keeps that reads the words of a command line
use Rattle.std.specs.Prelude.{ℕ, ◌≡◌, List, ◌∷◌, Option, None, Some, unwrap_or}
use Rattle.cls_lexer.specs.Numerals.{number_value}
use Rattle.cls_engine.specs.declared.options.Options.{Options}
use Rattle.cls_session.specs.declared.settings.OptionName.{OptionName}
use Rattle.cls_session.specs.declared.settings.OptionName.TheVariants.{Workers, MaxGoals, MaxRules, Pool}
use Rattle.cls_session.specs.declared.settings.Values.{Values}
use Rattle.cls_session.specs.Commands.{option_word, greatest, default, IsValue}

-- the value that is set for the option
abbrev pub value_at : Values → OptionName → Option ℕ
value_at values Workers = values.workers
value_at values MaxGoals = values.goals
value_at values MaxRules = values.rules
value_at values Pool = values.pool

-- one more is set
abbrev pub with_value : Values → OptionName → ℕ → Values
with_value values Workers value = record values { workers = Some value }
with_value values MaxGoals value = record values { goals = Some value }
with_value values MaxRules value = record values { rules = Some value }
with_value values Pool value = record values { pool = Some value }

-- all options, those that aren't set at their defaults
abbrev pub options_of : Values → Options
options_of values = record {
  workers = unwrap_or (value_at values Workers) (default Workers);
  goals = unwrap_or (value_at values MaxGoals) (default MaxGoals);
  rules = unwrap_or (value_at values MaxRules) (default MaxRules);
  pool = unwrap_or (value_at values Pool) (default Pool);
}

-- The option that the word is, if it is one.
abbrev pub IsNamed : List ℕ → Option OptionName → Type 0
IsNamed word None = (n : OptionName) → word ≡ option_word n → ⊥
IsNamed word (Some n) = word ≡ option_word n

-- The words begin with the option and a word that is a value of it.
pub record BeginsWith (words : List (List ℕ)) (n : OptionName) (number : ℕ) (others : List (List ℕ)) : Type 0 where
  pub value : List ℕ
  pub spelled : words ≡ option_word n ∷ value ∷ others
  pub within : IsValue (greatest n) value
  pub spells : number ≡ number_value value

-- They begin with no option and value.
abbrev pub BeginsWithNone : List (List ℕ) → Type 0
BeginsWithNone words = (n : OptionName) (number : ℕ) (others : List (List ℕ)) → BeginsWith words n number others → ⊥
