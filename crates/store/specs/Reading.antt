-- What counts as a store, and the state that it holds.
use Rattle.std.specs.Prelude.{◌≡◌, ℕ, ◌≤◌, List, length, slice_index, slice_index_or}
use Rattle.std.proofs.Math.Logic.Dec
use Rattle.std.proofs.Math.Option.{Option}
use Rattle.std.proofs.Math.Decide.{ℕ_discrete, dec_le, map_dec}
use Rattle.areas.specs.declared.area.Area.TheVariants.{Header, Letters}
use Rattle.areas.specs.Words.{wide}
use Rattle.areas.specs.Layout.{Dims, base_of, size_of, area_of, Limits}
use Rattle.model.specs.States.{State}
use Rattle.model.specs.Deciding.{given}
use Rattle.model.specs.Models.{Model, ValidModel, view_model, dec_model}
use Rattle.promises.specs.Promises.{Lawful}
use Rattle.store.specs.Decoding.{store_mark, mark_word, keys_word, most_word, letters_word, dims_of, model_of}

-- A memory is a store: it is marked, its words are within the limits, its log is within its area, and its model is valid.
pub record Stored (w : List ℕ) : Type 0 where
  pub marked : slice_index_or w mark_word 0 ≡ store_mark
  pub limits : Limits (dims_of w)
  pub log_fits : wide (area_of w (dims_of w) Header) letters_word ≤ size_of (dims_of w) Letters
  pub valid : ValidModel (model_of w (dims_of w))

-- Whether the limits hold.
pub dec_limits : (d : Dims) → Dec (Limits d)
dec_limits d =
    map_dec (λ h. record { some_keys = h.0.0; few_keys = h.0.1; some_states = h.1.0.0; few_states = h.1.0.1; fits = h.1.1 }) (λ l. ((l.some_keys, l.few_keys), ((l.some_states, l.few_states), l.fits)))
    (Dec.and (Dec.and (dec_le 1 d.keys) (dec_le d.keys 64)) (Dec.and (Dec.and (dec_le 1 d.most) (dec_le d.most 1024)) (dec_le (base_of d Letters) d.length)))

-- Whether a memory is a store.
pub dec_stored : (w : List ℕ) → Dec (Stored w)
dec_stored w =
    map_dec (λ h. record { marked = h.0.0; limits = h.0.1; log_fits = h.1.0; valid = h.1.1 }) (λ s. ((s.marked, s.limits), (s.log_fits, s.valid)))
    (Dec.and (Dec.and (ℕ_discrete (slice_index w mark_word) store_mark) (dec_limits (dims_of w))) (Dec.and (dec_le (wide (area_of w (dims_of w) Header) letters_word) (size_of (dims_of w) Letters)) (dec_model (model_of w (dims_of w)))))

-- The state that a memory holds; none where it is no store.
unfoldable pub state_of : List ℕ → Option State
state_of w = given (dec_stored w) (view_model (model_of w (dims_of w)))

-- A write leaves a memory whose model is m, with the mark, the keys, the most states and the length that it had.
pub record MovesTo (w w' : List ℕ) (d : Dims) (m : Model) : Type 0 where
  pub model : model_of w' d ≡ m
  pub mark : slice_index_or w' mark_word 0 ≡ slice_index w mark_word
  pub keys : slice_index_or w' keys_word 0 ≡ slice_index w keys_word
  pub most : slice_index_or w' most_word 0 ≡ slice_index w most_word
  pub long : length w' ≡ length w

-- All that is taken for a store stands.
abbrev pub StoresStand : Type 0
StoresStand = Lawful state_of
