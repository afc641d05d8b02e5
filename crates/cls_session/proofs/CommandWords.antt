-- The settings that the words of a command line spell.
use Rattle.std.proofs.Common.{◌≡◌, ℕ, zero, suc, ◌<◌, List, [], ◌∷◌, ◌++◌, length, map, codes, get_or, drop, refl, sym, ap, ◌∙◌, subst, inl, inr, arith, append_assoc, append-nil, true, false}
use Rattle.std.specs.Prelude.{Option, None, Some, is_some, Contains, bytes_eq, unwrap_or, String, string_bytes, if◌then◌else◌, ◌==◌}
use Rattle.std.specs.List.{flat_map, AllByRecursion}
use Rattle.std.proofs.lemmas.Bool.Decides.{eqb_tells}
use Rattle.std.proofs.lemmas.Grind.{flat_map-append}
use Rattle.std.proofs.lemmas.List.{length-map}
use Rattle.cls_base.specs.Lists.{AreDistinct}
use Rattle.cls_base.proofs.Lists.{map_last, Contains-nil, Contains-here, Contains-later, Contains-cases, AreDistinct-push}
use Rattle.cls_lexer.specs.Numerals.{number_value}
use Rattle.cls_engine.specs.declared.options.Options.{Options}
use Rattle.cls_session.specs.declared.settings.OptionName.{OptionName}
use Rattle.cls_session.specs.declared.settings.OptionName.TheVariants.{Workers, MaxGoals, MaxRules, Pool}
use Rattle.cls_session.specs.declared.settings.Values.{Values}
use Rattle.cls_session.specs.declared.words.Command.{Command}
use Rattle.cls_session.specs.declared.words.Command.TheVariants.{Session, Generate}
use Rattle.cls_session.specs.Commands.{texts_of, option_word, greatest, default, place, IsValue, Setting, setting_words, value_set, value_in, options_in, SetsOptions, IsGenerate, AsksGenerator, Asks, AsksNothing, IsInRange, AreInRange, HasNumbersInRange, CommandsAreOne}
use Rattle.cls_session.specs.Settings.{value_at, with_value, options_of, BeginsWith, BeginsWithNone}

-- OPTIONS ARE TOLD APART BY THEIR PLACES AND BY THEIR WORDS

abbrev option_at : ℕ → OptionName
option_at zero = Workers
option_at (suc zero) = MaxGoals
option_at (suc (suc zero)) = MaxRules
option_at (suc (suc (suc n))) = Pool

at_place : (n : OptionName) → option_at (place n) ≡ n
at_place Workers = refl
at_place MaxGoals = refl
at_place MaxRules = refl
at_place Pool = refl

place_one : (n m : OptionName) → place n ≡ place m → n ≡ m
place_one n m e = sym (at_place n) ∙ (ap option_at e ∙ at_place m)

abbrev option_of : List ℕ → OptionName
option_of w = if bytes_eq w (codes "--workers") then Workers else (if bytes_eq w (codes "--max-goals") then MaxGoals else (if bytes_eq w (codes "--max-rules") then MaxRules else Pool))

of_word : (n : OptionName) → option_of (option_word n) ≡ n
of_word Workers = refl
of_word MaxGoals = refl
of_word MaxRules = refl
of_word Pool = refl

word_one : (n m : OptionName) → option_word n ≡ option_word m → n ≡ m
word_one n m e = sym (of_word n) ∙ (ap option_of e ∙ of_word m)

-- `generate` is none of them
no_option : (n : OptionName) → codes "generate" ≡ option_word n → ⊥
no_option Workers e = cc
no_option MaxGoals e = cc
no_option MaxRules e = cc
no_option Pool e = cc

-- LISTS OF SETTINGS

abbrev option_in : Setting → OptionName
option_in s = s.option

abbrev IsWithin : Setting → Type 0
IsWithin s = IsValue (greatest s.option) s.value

module _ {A : Type 0} where
  heads : (x y : A) (xs ys : List A) → x ∷ xs ≡ y ∷ ys → x ≡ y
  heads x y xs ys e = ap (λ (l : List A). get_or l 0 x) e

  tails : (x y : A) (xs ys : List A) → x ∷ xs ≡ y ∷ ys → xs ≡ ys
  tails x y xs ys e = ap (λ (l : List A). drop 1 l) e

  not_empty : (x : A) (xs : List A) → x ∷ xs ≡ [] → ⊥
  not_empty x xs e = cc

pub some_differs : {A : Type 0} (x : A) → Some x ≡ None → ⊥
some_differs x e = cc

setting_one : (s t : Setting) → option_word s.option ≡ option_word t.option → s.value ≡ t.value → s ≡ t
setting_one s t e v = (let o = word_one s.option t.option e in λ i. record { option = o i; value = v i })

-- No setting begins the words.
abbrev EndsSettings : List (List ℕ) → Type 0
EndsSettings last = (s : Setting) (others : List (List ℕ)) → last ≡ setting_words s ++ others → ⊥

-- settings that spell a text with others in front have these in front
settings_front : (done settings : List Setting) (last rest : List (List ℕ)) → EndsSettings last → flat_map setting_words settings ++ last ≡ flat_map setting_words done ++ rest
    → (more : List Setting) × (settings ≡ done ++ more) × (flat_map setting_words more ++ last ≡ rest)
settings_front [] settings last rest ends e = (settings, refl, e)
settings_front (t ∷ done) [] last rest ends e = absurd (ends t (flat_map setting_words done ++ rest) e)
settings_front (t ∷ done) (s ∷ settings) last rest ends e =
    let one = setting_one s t (heads _ _ _ _ e) (heads _ _ _ _ (tails _ _ _ _ e)) in
    let (more, split, spelled) = settings_front done settings last rest ends (tails _ _ _ _ (tails _ _ _ _ e)) in
    (more, (λ i. one i ∷ split i), spelled)

-- settings and what follows them are told by their words
one_settings : (settings others : List Setting) (last after : List (List ℕ)) → EndsSettings last → EndsSettings after → flat_map setting_words settings ++ last ≡ flat_map setting_words others ++ after
    → (settings ≡ others) × (last ≡ after)
one_settings settings others last after ends stops e = (let (more, split, spelled) = settings_front others settings last after ends e in same more split spelled)
  where
    same : (more : List Setting) → settings ≡ others ++ more → flat_map setting_words more ++ last ≡ after → (settings ≡ others) × (last ≡ after)
    same [] split spelled = (split ∙ append-nil others, spelled)
    same (s ∷ more) split spelled = absurd (stops s (flat_map setting_words more ++ last) (sym spelled))

-- all are within their ranges, and those after the first ones too
within_after : (done more : List Setting) → AllByRecursion IsWithin (done ++ more) → AllByRecursion IsWithin more
within_after [] more h = h
within_after (t ∷ done) more h = within_after done more h.1

within_push : (done : List Setting) (s : Setting) → AllByRecursion IsWithin done → IsWithin s → AllByRecursion IsWithin (done ++ s ∷ [])
within_push [] s h w = (w, tt)
within_push (t ∷ done) s h w = (h.0, within_push done s h.1 w)

-- an option that was set isn't set again
not_again : (done : List Setting) (s : Setting) (more : List Setting) → AreDistinct (map option_in (done ++ s ∷ more)) → Contains (map option_in done) s.option → ⊥
not_again [] s more d c = Contains-nil s.option c
not_again (t ∷ done) s more d c = elim (Contains-cases t.option (map option_in done) s.option c) [
  | inl e ↦ d.0 (subst (λ (n : OptionName). Contains (map option_in (done ++ s ∷ more)) n) e (stands done))
  | inr i ↦ not_again done s more d.1 i
]
  where
    stands : (front : List Setting) → Contains (map option_in (front ++ s ∷ more)) s.option
    stands [] = Contains-here s.option (map option_in more)
    stands (u ∷ front) = Contains-later s.option u.option (map option_in (front ++ s ∷ more)) (stands front)

-- THE VALUE THAT IS SET

-- the first setting is of the option, or not
module _ (t : Setting) (settings : List Setting) (n : OptionName) where
  set_first : place t.option ≡ place n → value_set (t ∷ settings) n ≡ Some (number_value t.value)
  set_first e = elim (eqb_tells (place t.option) (place n)) [ inl p ↦ rw (p.0) refl | inr q ↦ absurd (q.1 e) ]

  set_later : (place t.option ≡ place n → ⊥) → value_set (t ∷ settings) n ≡ value_set settings n
  set_later d = elim (eqb_tells (place t.option) (place n)) [ inl p ↦ absurd (d p.1) | inr q ↦ rw (q.0) refl ]

-- an option without a value isn't among those that are set
unset : (settings : List Setting) (n : OptionName) → value_set settings n ≡ None → Contains (map option_in settings) n → ⊥
unset [] n e c = Contains-nil n c
unset (t ∷ settings) n e c = elim (eqb_tells (place t.option) (place n)) [
  | inl p ↦ some_differs _ (sym (set_first t settings n p.1) ∙ e)
  | inr q ↦ elim (Contains-cases t.option (map option_in settings) n c) [
    | inl same ↦ q.1 (sym (ap place same))
    | inr i ↦ unset settings n (sym (set_later t settings n q.1) ∙ e) i
  ]
]

-- one with a value is
is_set : (settings : List Setting) (n : OptionName) → (value_set settings n ≡ None → ⊥) → Contains (map option_in settings) n
is_set [] n d = absurd (d refl)
is_set (t ∷ settings) n d = elim (eqb_tells (place t.option) (place n)) [
  | inl p ↦ subst (λ (m : OptionName). Contains (map option_in (t ∷ settings)) m) (place_one t.option n p.1) (Contains-here t.option (map option_in settings))
  | inr q ↦ Contains-later n t.option (map option_in settings) (is_set settings n (λ e. d (set_later t settings n q.1 ∙ e)))
]

-- one setting more
set_push : (settings : List Setting) (s : Setting) (m : OptionName) → value_set settings s.option ≡ None
    → value_set (settings ++ s ∷ []) m ≡ (if place s.option == place m then Some (number_value s.value) else value_set settings m)
set_push [] s m e = refl
set_push (t ∷ settings) s m e = elim (eqb_tells (place t.option) (place s.option)) [
  | inl p ↦ absurd (some_differs _ (sym (set_first t settings s.option p.1) ∙ e))
  | inr q ↦
      let later = set_push settings s m (sym (set_later t settings s.option q.1) ∙ e) in
      elim (eqb_tells (place t.option) (place m)) [
        | inl p ↦ elim (eqb_tells (place s.option) (place m)) [
          | inl r ↦ absurd (q.1 (p.1 ∙ sym r.1))
          | inr r ↦ rw (p.0, r.0) refl
        ]
        | inr p ↦ set_later t (settings ++ s ∷ []) m p.1 ∙ (later ∙ ap (λ (v : Option ℕ). if place s.option == place m then Some (number_value s.value) else v) (sym (set_later t settings m p.1)))
      ]
]

value_with : (values : Values) (n : OptionName) (v : ℕ) (m : OptionName) → value_at (with_value values n v) m ≡ (if place n == place m then Some v else value_at values m)
value_with values Workers v Workers = refl
value_with values Workers v MaxGoals = refl
value_with values Workers v MaxRules = refl
value_with values Workers v Pool = refl
value_with values MaxGoals v Workers = refl
value_with values MaxGoals v MaxGoals = refl
value_with values MaxGoals v MaxRules = refl
value_with values MaxGoals v Pool = refl
value_with values MaxRules v Workers = refl
value_with values MaxRules v MaxGoals = refl
value_with values MaxRules v MaxRules = refl
value_with values MaxRules v Pool = refl
value_with values Pool v Workers = refl
value_with values Pool v MaxGoals = refl
value_with values Pool v MaxRules = refl
value_with values Pool v Pool = refl

-- THE COMMAND AFTER THE SETTINGS

abbrev command_options : Command → Options
command_options (Session o) = o
command_options (Generate o n) = o

-- The words ask for the command with these last words after the settings.
abbrev IsLast : Command → List (List ℕ) → Type 0
IsLast (Session o) last = last ≡ []
IsLast (Generate o n) last = IsGenerate last n

last_ends : (c : Command) (last : List (List ℕ)) → IsLast c last → EndsSettings last
last_ends (Session o) last is s others e = not_empty _ _ (sym e ∙ is)
last_ends (Generate o n) last is s others e = no_option s.option (heads _ _ _ _ (sym is.spelled ∙ e))

-- The words are settings of these options, and then others, which no setting begins.
record Spells (words last : List (List ℕ)) (o : Options) : Type 0 where
  pub settings : List Setting
  pub spelled : words ≡ flat_map setting_words settings ++ last
  pub once : AreDistinct (map (λ s. s.option) settings)
  pub values : AllByRecursion (λ s. IsValue (greatest s.option) s.value) settings
  pub options : o ≡ options_in settings
  pub ends : EndsSettings last

spelled_with : {first words : List (List ℕ)} {o : Options} (last : List (List ℕ)) → SetsOptions first o → words ≡ first ++ last → EndsSettings last → Spells words last o
spelled_with last h split ends = record {
  settings = h.settings;
  spelled = split ∙ ap (λ (ws : List (List ℕ)). ws ++ last) h.spelled;
  once = h.once;
  values = h.values;
  options = h.options;
  ends = ends;
}

spelled_by : (words : List (List ℕ)) (c : Command) → Asks words c → (last : List (List ℕ)) × Spells words last (command_options c) × IsLast c last
spelled_by words (Session o) h = ([], spelled_with [] h (sym (append-nil words)) (last_ends (Session o) [] refl), refl)
spelled_by words (Generate o n) h = (h.last, spelled_with h.last h.sets h.split (last_ends (Generate o n) h.last h.generate), h.generate)

-- THE WORDS ARE READ ONE SETTING AFTER ANOTHER

-- The words before `rest` are settings, and these values are set by them.
pub record IsReadUpTo (words rest : List (List ℕ)) (values : Values) : Type 0 where
  pub settings : List Setting
  pub spelled : words ≡ flat_map setting_words settings ++ rest
  pub once : AreDistinct (map (λ s. s.option) settings)
  pub within : AllByRecursion (λ s. IsValue (greatest s.option) s.value) settings
  pub set : (n : OptionName) → value_at values n ≡ value_set settings n

abbrev no_values : Values
no_values = record { workers = None; goals = None; rules = None; pool = None }

none_set : (n : OptionName) → value_at no_values n ≡ None
none_set Workers = refl
none_set MaxGoals = refl
none_set MaxRules = refl
none_set Pool = refl

pub none_read : (words : List (List ℕ)) → IsReadUpTo words words record { workers = None; goals = None; rules = None; pool = None }
none_read words = record { settings = []; spelled = refl; once = tt; within = tt; set = none_set }

module _ {words rest : List (List ℕ)} {values : Values} (u : IsReadUpTo words rest values) where
  -- one setting more
  pub one_more : {n : OptionName} {number : ℕ} {others : List (List ℕ)} → BeginsWith rest n number others → value_at values n ≡ None → IsReadUpTo words others (with_value values n number)
  one_more {n = n} {number = number} {others = others} b free =
      let s : Setting = record { option = n; value = b.value } in
      let none : value_set u.settings n ≡ None = sym (u.set n) ∙ free in
      record {
        settings = u.settings ++ s ∷ [];
        spelled = u.spelled ∙ (ap (λ (ws : List (List ℕ)). flat_map setting_words u.settings ++ ws) b.spelled
            ∙ (sym (append_assoc (flat_map setting_words u.settings) (setting_words s) others) ∙ ap (λ (ws : List (List ℕ)). ws ++ others) (sym (flat_map-append setting_words u.settings (s ∷ [])))));
        once = subst AreDistinct (sym (map_last option_in u.settings s)) (AreDistinct-push (map option_in u.settings) n u.once (unset u.settings n none));
        within = within_push u.settings s u.within b.within;
        set = λ m. value_with values n number m
            ∙ ((λ i. if place n == place m then Some (b.spells i) else u.set m i) ∙ sym (set_push u.settings s m none));
      }

  -- what settings the words would be
  front_of : {last : List (List ℕ)} {o : Options} (h : Spells words last o) → (more : List Setting) × (h.settings ≡ u.settings ++ more) × (flat_map setting_words more ++ last ≡ rest)
  front_of {last = last} h = settings_front u.settings h.settings last rest h.ends (sym h.spelled ∙ u.spelled)

  -- where neither a setting nor the generator follows, the words ask for nothing
  pub no_setting : 0 < length rest → BeginsWithNone rest → ((n : ℕ) → IsGenerate rest n → ⊥) → AsksNothing words
  no_setting some none unlike c asks =
      let (last, h, is) = spelled_by words c asks in
      let (more, split, spelled) = front_of h in
      none_of c last h is more split spelled
    where
      none_of : (c : Command) (last : List (List ℕ)) (h : Spells words last (command_options c)) → IsLast c last → (more : List Setting) → h.settings ≡ u.settings ++ more → flat_map setting_words more ++ last ≡ rest → ⊥
      none_of (Session o) last h is [] split spelled = absurd (let l = ap length (sym spelled ∙ is) in omega arith)
      none_of (Generate o n) last h is [] split spelled = unlike n (subst (λ (ws : List (List ℕ)). IsGenerate ws n) spelled is)
      none_of c last h is (s ∷ more) split spelled = none s.option (number_value s.value) (flat_map setting_words more ++ last) record {
        value = s.value;
        spelled = sym spelled;
        within = (let all = within_after u.settings (s ∷ more) (subst (λ (ss : List Setting). AllByRecursion IsWithin ss) split h.values) in all.0);
        spells = refl;
      }

  -- nor where an option follows that was set
  pub set_again : {n : OptionName} {number : ℕ} {others : List (List ℕ)} → BeginsWith rest n number others → (value_at values n ≡ None → ⊥) → AsksNothing words
  set_again {n = n} {others = others} b taken c asks =
      let (last, h, is) = spelled_by words c asks in
      let (more, split, spelled) = front_of h in
      none_of h more split spelled
    where
      none_of : {last : List (List ℕ)} {o : Options} (h : Spells words last o) (more : List Setting) → h.settings ≡ u.settings ++ more → flat_map setting_words more ++ last ≡ rest → ⊥
      none_of h [] split spelled = h.ends record { option = n; value = b.value } others (spelled ∙ b.spelled)
      none_of h (s ∷ more) split spelled =
          let same : s.option ≡ n = word_one s.option n (heads _ _ _ _ (spelled ∙ b.spelled)) in
          let stood : Contains (map option_in u.settings) n = is_set u.settings n (λ e. taken (u.set n ∙ e)) in
          not_again u.settings s more (subst (λ (ss : List Setting). AreDistinct (map option_in ss)) split h.once)
          (subst (λ (m : OptionName). Contains (map option_in u.settings) m) (sym same) stood)

  -- the values are what the settings set
  all_set : SetsOptions (flat_map setting_words u.settings) (options_of values)
  all_set = record {
    settings = u.settings;
    spelled = refl;
    once = u.once;
    values = u.within;
    options = λ i. record {
      workers = unwrap_or (u.set Workers i) (default Workers);
      goals = unwrap_or (u.set MaxGoals i) (default MaxGoals);
      rules = unwrap_or (u.set MaxRules i) (default MaxRules);
      pool = unwrap_or (u.set Pool i) (default Pool);
    };
  }

  -- where no word follows, the words ask for a session
  pub all_read : length rest ≡ 0 → SetsOptions words (options_of values)
  all_read none = subst (λ (ws : List (List ℕ)). SetsOptions ws (options_of values))
      (sym (u.spelled ∙ (ap (λ (ws : List (List ℕ)). flat_map setting_words u.settings ++ ws) (empty rest none) ∙ append-nil (flat_map setting_words u.settings)))) all_set
    where
      empty : (ws : List (List ℕ)) → length ws ≡ 0 → ws ≡ []
      empty [] e = refl
      empty (w ∷ ws) e = absurd (omega arith)

  -- where the generator follows, they ask for it
  pub generate_read : {n : ℕ} → IsGenerate rest n → AsksGenerator words (options_of values) n
  generate_read g = record { first = flat_map setting_words u.settings; last = rest; split = u.spelled; sets = all_set; generate = g }

-- THE LAW

default_in_range : (n : OptionName) → IsInRange n (default n)
default_in_range Workers = (omega arith, omega arith)
default_in_range MaxGoals = (omega arith, omega arith)
default_in_range MaxRules = (omega arith, omega arith)
default_in_range Pool = (omega arith, omega arith)

value_in_range : (settings : List Setting) (n : OptionName) → AllByRecursion IsWithin settings → IsInRange n (value_in settings n)
value_in_range [] n h = default_in_range n
value_in_range (t ∷ settings) n h = elim (eqb_tells (place t.option) (place n)) [
  | inl p ↦
      let w : IsInRange n (number_value t.value) = subst (λ (m : OptionName). IsInRange m (number_value t.value)) (place_one t.option n p.1) (let k = h.0 in (k.some, k.within)) in
      subst (λ (v : Option ℕ). IsInRange n (unwrap_or v (default n))) (sym (set_first t settings n p.1)) w
  | inr q ↦ subst (λ (v : Option ℕ). IsInRange n (unwrap_or v (default n))) (sym (set_later t settings n q.1)) (value_in_range settings n h.1)
]

settings_in_range : (settings : List Setting) → AllByRecursion IsWithin settings → AreInRange (options_in settings)
settings_in_range settings h = record {
  workers = value_in_range settings Workers h;
  goals = value_in_range settings MaxGoals h;
  rules = value_in_range settings MaxRules h;
  pool = value_in_range settings Pool h;
}

sets_in_range : {words : List (List ℕ)} {o : Options} → SetsOptions words o → AreInRange o
sets_in_range h = subst AreInRange (sym h.options) (settings_in_range h.settings h.values)

-- numbers that words spell are within their ranges
pub in_range : (words : List (List ℕ)) (c : Command) → Asks words c → HasNumbersInRange c
in_range words (Session o) h = sets_in_range h
in_range words (Generate o n) h = (let g = h.generate in let w = g.within in (sets_in_range h.sets, omega (arith, g.spells, w.some), omega (arith, g.spells, w.within)))

same_command : (c d : Command) (last : List (List ℕ)) → command_options c ≡ command_options d → IsLast c last → IsLast d last → c ≡ d
same_command (Session o) (Session p) last e is js = ap Session e
same_command (Session o) (Generate p m) last e is js = absurd (not_empty _ _ (sym js.spelled ∙ is))
same_command (Generate o n) (Session p) last e is js = absurd (not_empty _ _ (sym is.spelled ∙ js))
same_command (Generate o n) (Generate p m) last e is js =
    let value = heads _ _ _ _ (tails _ _ _ _ (sym is.spelled ∙ js.spelled)) in
    let number : n ≡ m = is.spells ∙ (ap number_value value ∙ sym js.spells) in
    λ i. Generate (e i) (number i)

one_command : (words : List (List ℕ)) (c d : Command) → Asks words c → Asks words d → c ≡ d
one_command words c d h k =
    let (last, a, is) = spelled_by words c h in
    let (after, b, js) = spelled_by words d k in
    let (settings, lasts) = one_settings a.settings b.settings last after a.ends b.ends (sym a.spelled ∙ b.spelled) in
    same_command c d after (a.options ∙ (ap options_in settings ∙ sym b.options)) (subst (λ (ws : List (List ℕ)). IsLast c ws) lasts is) js

-- and so for one session
pub session_one : (words : List (List ℕ)) (o p : Options) → Asks words (Session o) → Asks words (Session p) → o ≡ p
session_one words o p h k = ap command_options (one_command words (Session o) (Session p) h k)

-- words that ask for the generator ask for no session
pub no_session : (words : List (List ℕ)) (o p : Options) (n : ℕ) → Asks words (Generate o n) → Asks words (Session p) → ⊥
no_session words o p n h k = differs (one_command words (Generate o n) (Session p) h k)
  where
    differs : Generate o n ≡ Session p → ⊥
    differs e = cc

pub commands_are_one : CommandsAreOne
commands_are_one = record { one = one_command; in_range = in_range }

-- the tests of a value that is set or not
pub is_unset : (v w : Option ℕ) → v ≡ w → is_some v ≡ false → w ≡ None
is_unset v w e f = sym e ∙ none_of v f
  where
    none_of : (v : Option ℕ) → is_some v ≡ false → v ≡ None
    none_of None f = refl
    none_of (Some x) f = absurd (cc)

pub is_taken : (v w : Option ℕ) → v ≡ w → is_some v ≡ true → w ≡ None → ⊥
is_taken v w e t n = some_of v t (e ∙ n)
  where
    some_of : (v : Option ℕ) → is_some v ≡ true → v ≡ None → ⊥
    some_of None t n = cc
    some_of (Some x) t n = some_differs x n

-- as many texts as words
pub length-texts_of : {A : Type 0} (words : List (String A)) → length (texts_of words) ≡ length words
length-texts_of words = length-map words string_bytes
