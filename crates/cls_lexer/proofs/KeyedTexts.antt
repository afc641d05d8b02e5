-- Texts that are looked up by their keys.
use Rattle.std.proofs.Common.{◌≡◌, ℕ, zero, suc, Bool, true, false, List, [], ◌∷◌, ◌++◌, length, take, refl, ap, sym, ◌∙◌, arith, subst, get_or, Contains, Some, slice_get, length-append}
use Rattle.std.specs.Prelude.{String, string_bytes, ◌==◌}
use Rattle.std.specs.List.{AllByRecursion, IsDistinct, list_any, position, position_or_len, remove}
use Rattle.std.specs.Str.{bytes_eq}
use Rattle.std.proofs.lemmas.Bool.{true≢false}
use Rattle.std.proofs.lemmas.Bool.Decides.{Decides-eqb, same_from_decides}
use Rattle.std.proofs.lemmas.Slice.Eq.{bytes_eq-Decides}
use Rattle.std.proofs.lemmas.List.Folds.{Any-from_list_any}
use Rattle.std.proofs.Math.Seq.{get_or-append_seam}
use Rattle.std.proofs.lemmas.Option.{slice_get-get_or}
use Rattle.indexmap.specs.IndexSet.{insert_key}
use Rattle.indexmap.proofs.SetLemmas.{AllZip-push}
use Rattle.cls_lexer.specs.Names.{with_text}
use Rattle.std.proofs.lemmas.Slice.Zip.{AllZip-long}
use Rattle.cls_lexer.specs.TextKeys.{text_number, IsKeyOf, AreKeysOf, keys_equal, short_equal}
use Rattle.cls_lexer.specs.declared.text_key.TextKey.{TextKey}
use Rattle.cls_lexer.specs.declared.text_key.TextKey.TheVariants.{Short, Long}
use Rattle.cls_lexer.proofs.TextKeys.{number_tells}

module _ {A : Type 0} where
  -- the test of keys answers whether the key's text is this text
  abbrev pub Tells : (TextKey (String A) → Bool) → List ℕ → Type 0
  Tells test text = (key : TextKey (String A)) (other : List ℕ) → IsKeyOf string_bytes key other → test key ≡ bytes_eq text other

  -- a text's key tells the text from others
  pub key_tells : {T : Type 0} (bytes : T → List ℕ) (own : TextKey T) (text : List ℕ) → IsKeyOf bytes own text → Tells (keys_equal (λ (x : T) (y : String A). bytes_eq (bytes x) (string_bytes y)) own) text
  key_tells bytes (Short a) text h (Short b) other k =
      same_from_decides {P = text ≡ other} (a == b) (bytes_eq text other)
      (λ e. number_tells text other h.1 k.1 (sym h.2 ∙ ((Decides-eqb a b).0 e ∙ k.2)), λ e. (Decides-eqb a b).1 (h.2 ∙ (ap text_number e ∙ sym k.2)))
      (bytes_eq-Decides text other)
  key_tells bytes (Short a) text h (Long y) other k =
      same_from_decides {P = text ≡ other} false (bytes_eq text other)
      (λ e. absurd (true≢false (sym e)), λ e. let long = ap length e in let l = h.0 in let m = k.0 in absurd (omega (arith, long, l, m)))
      (bytes_eq-Decides text other)
  key_tells bytes (Long x) text h (Short b) other k =
      same_from_decides {P = text ≡ other} false (bytes_eq text other)
      (λ e. absurd (true≢false (sym e)), λ e. let long = ap length e in let l = h.0 in let m = k.0 in absurd (omega (arith, long, l, m)))
      (bytes_eq-Decides text other)
  key_tells bytes (Long x) text h (Long y) other k = ap (λ (t : List ℕ). bytes_eq t (string_bytes y)) h.1 ∙ ap (bytes_eq text) k.1

  -- and so does the number of a short text
  pub short_tells : (a : ℕ) (text : List ℕ) → IsKeyOf {T = List ℕ} (λ own. own) (Short a) text → Tells (short_equal a) text
  short_tells a text h (Short b) other k = key_tells (λ (own : List ℕ). own) (Short a) text h (Short b) other k
  short_tells a text h (Long y) other k = key_tells (λ (own : List ℕ). own) (Short a) text h (Long y) other k

  -- the derived equality of keys
  pub record IsEquality (eq : TextKey (String A) → TextKey (String A) → Bool) : Type 0 where
    pub shorts : (a b : ℕ) → eq (Short a) (Short b) ≡ (a == b)
    pub short_long : (a : ℕ) (y : String A) → eq (Short a) (Long y) ≡ false
    pub long_short : (x : String A) (b : ℕ) → eq (Long x) (Short b) ≡ false
    pub longs : (x y : String A) → eq (Long x) (Long y) ≡ bytes_eq (string_bytes x) (string_bytes y)

  module _ (eq : TextKey (String A) → TextKey (String A) → Bool) (e : IsEquality eq) where
    equality : (x y : TextKey (String A)) → eq x y ≡ keys_equal (λ (a b : String A). bytes_eq (string_bytes a) (string_bytes b)) x y
    equality (Short a) (Short b) = e.shorts a b
    equality (Short a) (Long y) = e.short_long a y
    equality (Long x) (Short b) = e.long_short x b
    equality (Long x) (Long y) = e.longs x y

    pub equal_tells : (own : TextKey (String A)) (text : List ℕ) → IsKeyOf string_bytes own text → Tells (eq own) text
    equal_tells own text h key other k = equality own key ∙ key_tells string_bytes own text h key other k

  module _ (test : TextKey (String A) → Bool) (text : List ℕ) (tells : Tells test text) where
    pub list_any_keys : (keys : List (TextKey (String A))) (texts : List (List ℕ)) → AreKeysOf keys texts → list_any test keys ≡ list_any (bytes_eq text) texts
    list_any_keys [] [] h = refl
    list_any_keys [] (t ∷ ts) h = absurd h
    list_any_keys (k ∷ ks) [] h = absurd h
    list_any_keys (k ∷ ks) (t ∷ ts) h = rw (tells k t h.0, list_any_keys ks ts h.1) refl

    position_or_len-keys : (keys : List (TextKey (String A))) (texts : List (List ℕ)) → AreKeysOf keys texts → position_or_len test keys ≡ position_or_len (bytes_eq text) texts
    position_or_len-keys [] [] h = refl
    position_or_len-keys [] (t ∷ ts) h = absurd h
    position_or_len-keys (k ∷ ks) [] h = absurd h
    position_or_len-keys (k ∷ ks) (t ∷ ts) h = rw (tells k t h.0, position_or_len-keys ks ts h.1) refl

    pub position_keys : (keys : List (TextKey (String A))) (texts : List (List ℕ)) → AreKeysOf keys texts → position test keys ≡ position (bytes_eq text) texts
    position_keys keys texts h = rw (position_or_len-keys keys texts h, AllZip-long (IsKeyOf string_bytes) keys texts h) refl

    apart-keys : (keys : List (TextKey (String A))) (texts : List (List ℕ)) → AreKeysOf keys texts → AllByRecursion (λ k. test k ≡ false) keys → AllByRecursion (λ t. bytes_eq text t ≡ false) texts
    apart-keys [] [] h a = tt
    apart-keys [] (t ∷ ts) h a = absurd h
    apart-keys (k ∷ ks) [] h a = absurd h
    apart-keys (k ∷ ks) (t ∷ ts) h a = (sym (tells k t h.0) ∙ a.0, apart-keys ks ts h.1 a.1)

  pub distinct_keys :
      (eq : TextKey (String A) → TextKey (String A) → Bool) → IsEquality eq
      → (keys : List (TextKey (String A))) (texts : List (List ℕ)) → AreKeysOf keys texts → IsDistinct eq keys → IsDistinct bytes_eq texts
  unfolding IsDistinct
  distinct_keys eq e [] [] h d = tt
  distinct_keys eq e [] (t ∷ ts) h d = absurd h
  distinct_keys eq e (k ∷ ks) [] h d = absurd h
  distinct_keys eq e (k ∷ ks) (t ∷ ts) h d = (apart-keys (eq k) t (equal_tells eq e k t h.0) ks ts h.1 d.0, distinct_keys eq e ks ts h.1 d.1)

  pub keys_take : (n : ℕ) (keys : List (TextKey (String A))) (texts : List (List ℕ)) → AreKeysOf keys texts → AreKeysOf (take n keys) (take n texts)
  keys_take zero keys texts h = tt
  keys_take (suc n) [] [] h = tt
  keys_take (suc n) [] (t ∷ ts) h = absurd h
  keys_take (suc n) (k ∷ ks) [] h = absurd h
  keys_take (suc n) (k ∷ ks) (t ∷ ts) h = (h.0, keys_take n ks ts h.1)

  pub keys_remove : (i : ℕ) (keys : List (TextKey (String A))) (texts : List (List ℕ)) → AreKeysOf keys texts → AreKeysOf (remove keys i) (remove texts i)
  keys_remove zero [] [] h = tt
  keys_remove (suc i) [] [] h = tt
  keys_remove i [] (t ∷ ts) h = absurd h
  keys_remove i (k ∷ ks) [] h = absurd h
  keys_remove zero (k ∷ ks) (t ∷ ts) h = h.1
  keys_remove (suc i) (k ∷ ks) (t ∷ ts) h = (h.0, keys_remove i ks ts h.1)

  pub keys_length : (keys : List (TextKey (String A))) (texts : List (List ℕ)) → AreKeysOf keys texts → length texts ≡ length keys
  keys_length keys texts h = AllZip-long (IsKeyOf string_bytes) keys texts h

-- a text that isn't held is none of the texts
pub not_any : (texts : List (List ℕ)) (text : List ℕ) → (Contains texts text → ⊥) → list_any (bytes_eq text) texts ≡ false
not_any texts text not_held =
    (elim (list_any (bytes_eq text) texts) as (λ b. list_any (bytes_eq text) texts ≡ b → list_any (bytes_eq text) texts ≡ false) [
      | true ↦ λ e.
          let any = Any-from_list_any (bytes_eq text) texts e in
          let same : text ≡ any.1 = (bytes_eq-Decides text any.1).0 any.4 in
          absurd (not_held (any.0, any.2, subst (λ (t : List ℕ). get_or texts any.0 t ≡ t) (sym same) any.3))
      | false ↦ λ e. e
    ]) refl

-- one text more, at the end
pub with_text-new : (texts : List (List ℕ)) (text : List ℕ) → (Contains texts text → ⊥) → texts ++ text ∷ [] ≡ with_text texts text
with_text-new texts text not_held = rw (not_any texts text not_held) refl

pub stands_last : (texts : List (List ℕ)) (text : List ℕ) → slice_get (texts ++ text ∷ []) (length texts) ≡ Some text
stands_last texts text =
    let long = length-append texts (text ∷ []) in
    slice_get-get_or (texts ++ text ∷ []) (length texts) [] (omega (arith, long)) ∙ ap (λ (t : List ℕ). Some t) (get_or-append_seam texts text [] [])

module _ {A : Type 0} (eq : TextKey (String A) → TextKey (String A) → Bool) (e : IsEquality eq) where
  keys-insert :
      (keys more : List (TextKey (String A))) (texts : List (List ℕ)) (own : TextKey (String A)) (text : List ℕ) → more ≡ insert_key eq keys own
      → IsKeyOf string_bytes own text → AreKeysOf keys texts → (Contains texts text → ⊥) → AreKeysOf more (texts ++ text ∷ [])
  keys-insert keys more texts own text inserted is h not_held =
      let none : list_any (eq own) keys ≡ false = list_any_keys (eq own) text (equal_tells eq e own text is) keys texts h ∙ not_any texts text not_held in
      let last : more ≡ keys ++ own ∷ [] = inserted ∙ rw none refl in
      rw last (AllZip-push (IsKeyOf string_bytes) keys texts own text h is)

  pub inserted :
      (keys more : List (TextKey (String A))) (texts : List (List ℕ)) (own : TextKey (String A)) (text : List ℕ) → more ≡ insert_key eq keys own → IsDistinct eq more
      → IsKeyOf string_bytes own text → AreKeysOf keys texts → (Contains texts text → ⊥)
      → AreKeysOf more (texts ++ text ∷ []) × IsDistinct bytes_eq (texts ++ text ∷ [])
  inserted keys more texts own text new unique is h not_held =
      let keyed = keys-insert keys more texts own text new is h not_held in
      (keyed, distinct_keys eq e more (texts ++ text ∷ []) keyed unique)
