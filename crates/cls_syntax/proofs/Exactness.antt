-- What reads each line again, and stops where it must, is exact.
use Rattle.std.proofs.Common.{◌≡◌, Bool, true, false, List, [], ◌∷◌, ◌++◌, refl, ap, sym, ◌∙◌, append_assoc, append-nil}
use Rattle.std.specs.Prelude.{Result, Ok, Err}
use Rattle.cls_lexer.specs.Words.{Word, name}
use Rattle.cls_syntax.specs.Faults.{Stop, stop, CanGoOn, Refuses, WantsName, IsFault, Says, Exactly}
use Rattle.cls_syntax.proofs.FrontFaults.{RefusesName, FrontFault}

module _ {A : Type 0} (read : List Word → Result A Stop) (words : A → List Word) (Stands : A → Type 0)
    (again : (v : A) → Stands v → read (words v) ≡ Ok v)
    (ok : (ws : List Word) (v : A) → read ws ≡ Ok v → Says words Stands v ws)
    (err : (ws rest : List Word) (b : Bool) → read ws ≡ Err (stop rest b) → FrontFault read words Stands ws rest b) where
  dead : (front : List Word) (w : Word) (b : Bool) → ((us : List Word) → read (front ++ w ∷ us) ≡ Err (stop (w ∷ us) b)) → CanGoOn words Stands (front ++ w ∷ []) → ⊥
  dead front w b always go =
      let said : words go.line ≡ front ++ w ∷ go.more = go.begins ∙ append_assoc front (w ∷ []) go.more in
      let both : Path (Result A Stop) (Ok go.line) (Err (stop (w ∷ go.more) b)) = sym (again go.line go.stands) ∙ (ap read said ∙ always go.more) in cc

  refuses : (ws front rest : List Word) (b : Bool) → read ws ≡ Err (stop rest b) → ws ≡ front ++ rest → ((w : Word) (vs us : List Word) → rest ≡ w ∷ vs → read (front ++ w ∷ us) ≡ Err (stop (w ∷ us) b)) → Refuses words Stands front rest
  refuses ws front [] b h split always = λ v s is.
      let both : Path (Result A Stop) (Ok v) (Err (stop [] b)) = sym (again v s) ∙ (ap read (is ∙ sym (split ∙ append-nil front)) ∙ h) in cc
  refuses ws front (w ∷ vs) b h split always = dead front w b (λ us. always w vs us refl)

  name_refused : (front : List Word) (b : Bool) → RefusesName read front b → WantsName words Stands front → ⊥
  name_refused front b r all = dead front (name r.text) b r.always (all r.text r.plain)

  wanted : (ws rest : List Word) (b : Bool) (f : FrontFault read words Stands ws rest b) → WantsName words Stands f.front → b ≡ true
  wanted ws rest true f all = refl
  wanted ws rest false f all = absurd (name_refused f.front false (f.unnamed refl) all)

  pub exactly : (ws : List Word) → Exactly words Stands ws (read ws)
  exactly ws =
      (elim (read ws) as (λ r. read ws ≡ r → Exactly words Stands ws r) [
        | Ok v ↦ λ e. ok ws v e
        | Err (stop rest b) ↦ λ e.
            let f = err ws rest b e in
            record { front = f.front; split = f.split; live = f.live; refused = refuses ws f.front rest b e f.split f.always; named = (f.named, wanted ws rest b f) }
      ]) refl

-- The same grammar, with its words and what it asks said in another way.
module _ {A : Type 0} (words words' : A → List Word) (Stands Stands' : A → Type 0)
    (same : (a : A) → words a ≡ words' a)
    (to : (a : A) → Stands a → Stands' a)
    (from : (a : A) → Stands' a → Stands a) where
  goes_as : (front : List Word) → CanGoOn words Stands front → CanGoOn words' Stands' front
  goes_as front go = record { line = go.line; stands = to go.line go.stands; more = go.more; begins = sym (same go.line) ∙ go.begins }

  goes_back : (front : List Word) → CanGoOn words' Stands' front → CanGoOn words Stands front
  goes_back front go = record { line = go.line; stands = from go.line go.stands; more = go.more; begins = same go.line ∙ go.begins }

  refuses_as : (front rest : List Word) → Refuses words Stands front rest → Refuses words' Stands' front rest
  refuses_as front [] r = λ a s is. r a (from a s) (same a ∙ is)
  refuses_as front (w ∷ ws) r = λ go. r (goes_back (front ++ w ∷ []) go)

  pub fault_as : (ws rest : List Word) (b : Bool) → IsFault words Stands ws rest b → IsFault words' Stands' ws rest b
  fault_as ws rest b f = record {
    front = f.front;
    split = f.split;
    live = goes_as f.front f.live;
    refused = refuses_as f.front rest f.refused;
    named = (λ h x p. goes_as (f.front ++ name x ∷ []) (f.named.0 h x p), λ all. f.named.1 (λ x p. goes_back (f.front ++ name x ∷ []) (all x p)));
  }

  pub exactly_as : (ws : List Word) (r : Result A Stop) → Exactly words Stands ws r → Exactly words' Stands' ws r
  exactly_as ws (Ok a) e = record { spelled = sym (same a) ∙ e.spelled; stands = to a e.stands }
  exactly_as ws (Err (stop rest b)) e = fault_as ws rest b e
