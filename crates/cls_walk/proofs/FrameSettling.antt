-- Where arguments end, what is listed stays the same.
use Rattle.std.proofs.Common.{◌≡◌, ℕ, ◌+◌, ◌-◌, ◌≤◌, List, [], ◌∷◌, refl, inl, inr, arith}
use Rattle.std.specs.Prelude.{◌↔◌, ◌⊎◌}
use Rattle.cls_base.specs.declared.rule.Rule.{Rule}
use Rattle.cls_walk.specs.Frames.{Frame, IsComplete, IsAsking, AreAsking, await_count, ListsBy, Settles, whole, asking, ended}
use Rattle.cls_walk.proofs.FrameSizes.{lists-ended}

pub count-some : (frames : List Frame) → AreAsking frames → 1 ≤ await_count frames
count-some [] a = omega arith
count-some (f ∷ fs) a = omega (arith, a.0, count-some fs a.1)

-- the occurrences to spare: an opening takes as many as it has arguments
pub spare-opened : (f : Frame) (frames : List Frame) (spare room k : ℕ) → AreAsking frames → f.left ≡ k → k ≤ spare → spare + await_count frames ≡ room + 1 → (spare - k) + await_count (f ∷ frames) ≡ room
spare-opened f frames spare room k a e l s = omega (arith, count-some frames a, e, l, s)

module _ (book : List (List (Rule ℕ))) where
  -- only a whole frame is left, or one more argument is to come
  pub settled : (f : Frame) (fs frames : List Frame) → Settles book f fs frames → IsAsking frames ⊎ ((g : Frame) × (frames ≡ g ∷ []))
  settled f _ _ whole = inr (f, refl)
  settled f fs _ (asking l) = inl l
  settled f _ frames (ended {h = h} {fs = fs} e a s) = settled h fs frames s

  pub settled-asking : (f : Frame) (fs frames : List Frame) → Settles book f fs frames → AreAsking fs → IsAsking frames → AreAsking frames
  settled-asking f _ _ whole a q = (q, tt)
  settled-asking f fs _ (asking l) a q = (l, a)
  settled-asking f _ frames (ended {h = h} {fs = fs} e v s) a q = settled-asking h fs frames s a.1 q

  pub settled-count : (f : Frame) (fs frames : List Frame) → Settles book f fs frames → AreAsking fs → await_count (f ∷ fs) ≡ await_count frames
  settled-count f _ _ whole a = refl
  settled-count f fs _ (asking l) a = refl
  settled-count f _ frames (ended {g = g} {h = h} {fs = fs} e v s) a =
      omega (arith, settled-count h fs frames s a.1, count-some fs a.1, e, v.count)

  pub settled-lists : (cost : ℕ → ℕ) (start size room : ℕ) (w : List ℕ) (f : Frame) (fs frames : List Frame) → Settles book f fs frames → ListsBy book cost start (f ∷ fs) size room w ↔ ListsBy book cost start frames size room w
  settled-lists cost start size room w f _ _ whole = ((λ l. l), (λ l. l))
  settled-lists cost start size room w f fs _ (asking m) = ((λ l. l), (λ l. l))
  settled-lists cost start size room w f _ frames (ended {g = g} {h = h} {fs = fs} e v s) =
      let a = lists-ended book start f g h fs (IsComplete f) v e (λ m i. i) (λ m i. i) cost size room w in
      let b = settled-lists cost start size room w h fs frames s in
      ((λ l. b.0 (a.0 l)), (λ l. a.1 (b.1 l)))
