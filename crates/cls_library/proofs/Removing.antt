-- A list of schemas without one of them has the library without that component.
use Rattle.std.proofs.Common.{ℕ, zero, suc, ◌+◌, ◌<◌, ◌≤◌, List, [], ◌∷◌, length, arith}
use Rattle.std.specs.Prelude.{remove}
use Rattle.cls_base.specs.Types.{ClosedType, spread}
use Rattle.cls_base.specs.Schemas.{OpenType}
use Rattle.cls_taxon.specs.Orders.{Declared}
use Rattle.cls_kind.specs.Kinds.{instances_of}
use Rattle.cls_library.specs.Libraries.{Component, Library, variances_in, weight_of, AreComponentsOf, no_components, one_component}
use Rattle.cls_library.specs.Refusals.{AreAcceptable, AreAccepted, IsLibraryOf}

module _ (d : Declared) (kinds : List (ℕ × List ClosedType)) where
  -- what is accepted is accepted after less
  acceptable-less : (w v : ℕ) (ts : List ClosedType) → v ≤ w → AreAcceptable (variances_in d) w ts → AreAcceptable (variances_in d) v ts
  acceptable-less w v [] l h = tt
  acceptable-less w v (t ∷ ts) l h = (
    record { small = h.0.small; arity = h.0.arity; light = let k = h.0.light in omega arith },
    acceptable-less (w + (spread t + 1)) (v + (spread t + 1)) ts (omega arith) h.1,
  )

  accepted-less : (n m w v : ℕ) (ss : List OpenType) → m ≤ n → v ≤ w → AreAccepted d kinds n w ss → AreAccepted d kinds m v ss
  accepted-less n m w v [] k l h = tt
  accepted-less n m w v (s ∷ ss) k l h =
      let room = h.0.room in
      let weight = weight_of (instances_of kinds s) in (
        record {
          room = omega arith;
          has_instances = h.0.has_instances;
          acceptable = acceptable-less w v (instances_of kinds s) l h.0.acceptable;
        },
        accepted-less (n + 1) (m + 1) (w + weight) (v + weight) ss (omega arith) (omega arith) h.1,
      )

  accepted-without : (n w : ℕ) (ss : List OpenType) (x : ℕ) → x < length ss → AreAccepted d kinds n w ss → AreAccepted d kinds n w (remove ss x)
  accepted-without n w [] x l h = absurd (omega arith)
  accepted-without n w (s ∷ ss) zero l h = accepted-less (n + 1) n (w + weight_of (instances_of kinds s)) w ss (omega arith) (omega arith) h.1
  accepted-without n w (s ∷ ss) (suc x) l h = (h.0, accepted-without (n + 1) (w + weight_of (instances_of kinds s)) ss x (omega arith) h.1)

  components-without : {ss : List OpenType} {cs : List Component} (x : ℕ) → x < length ss → AreComponentsOf d kinds ss cs → AreComponentsOf d kinds (remove ss x) (remove cs x)
  components-without x l no_components = absurd (omega arith)
  components-without zero l (one_component h k) = k
  components-without (suc x) l (one_component h k) = one_component h (components-without x (omega arith) k)

  pub removing : (schemas : List OpenType) (l : Library) (x : ℕ) → IsLibraryOf d kinds schemas l → x < length schemas
      → IsLibraryOf d kinds (remove schemas x) (record { taxonomy = l.taxonomy; components = remove l.components x })
  removing schemas l x h within = record {
    taxonomy = h.taxonomy;
    accepted = accepted-without 0 0 schemas x within h.accepted;
    components = components-without x within h.components;
  }
