-- Writes to one memory, one after the other.
use Rattle.std.proofs.Common.{◌≡◌, ℕ, List, refl, sym, ap, ◌∙◌, subst}
use Rattle.areas.specs.declared.memory.Memory.{Memory}
use Rattle.areas.specs.Layout.{Dims}
use Rattle.areas.specs.Memories.{Writes}
use Rattle.areas.specs.Shapes.{dims}

-- What was done, said of the shape that the memory had before.
pub done_at : {m n : Memory} {change : List ℕ → List ℕ → Dims → Type 0} {d : Dims} → Writes m n change → dims m.shape ≡ d → change m.words.now n.words.now d
done_at {m = m} {n = n} {change = change} w e = subst (λ d. change m.words.now n.words.now d) e w.words

-- A write leaves what the memory is laid out for.
pub dims_kept : {m n : Memory} {change : List ℕ → List ℕ → Dims → Type 0} → Writes m n change → dims n.shape ≡ dims m.shape
dims_kept w = ap dims w.shape

-- Nothing was written.
pub writes_none : {change : List ℕ → List ℕ → Dims → Type 0} (m : Memory) → change m.words.now m.words.now (dims m.shape) → Writes m m change
writes_none m h = record { reference = refl; shape = refl; long = refl; words = h }

-- What one write did, said in other words.
pub writes_so : {m n : Memory} {change other : List ℕ → List ℕ → Dims → Type 0} → Writes m n change → other m.words.now n.words.now (dims m.shape) → Writes m n other
writes_so w h = record { reference = w.reference; shape = w.shape; long = w.long; words = h }

-- What two writes did, one after the other.
pub writes_then : {m n o : Memory} {change other both : List ℕ → List ℕ → Dims → Type 0} → Writes m n change → Writes n o other → both m.words.now o.words.now (dims m.shape) → Writes m o both
writes_then v w h = record { reference = w.reference ∙ v.reference; shape = w.shape ∙ v.shape; long = w.long ∙ v.long; words = h }

-- Two writes, of which only the memory and its shape matter.
pub writes_on : {m n o : Memory} {change other : List ℕ → List ℕ → Dims → Type 0} → Writes m n change → Writes n o other → Writes m o (λ w w' d. Unit {0})
writes_on v w = writes_then v w tt

-- What holds of a memory's words at its end holds of the words that were lent to it.
pub lent_back : (fact : List ℕ → Type 0) {back : List ℕ} (w : List ℕ) → back ≡ w → fact w → fact back
lent_back fact w e h = subst fact (sym e) h
