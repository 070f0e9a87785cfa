-- What is printed of a refusal.
use Rattle.std.specs.Prelude.{ℕ, ◌-◌, ◌^◌, false, codes, List, [], ◌∷◌, ◌++◌}
use Rattle.std.specs.Fmt.{decimal, digits, format_spec, padded_integral}
use Rattle.units.specs.Refusals.{Refused, refused, refused_at}
use Rattle.units.specs.declared.refusals.Layer.{Layer}
use Rattle.units.specs.declared.refusals.Layer.TheVariants.{Frame, Life}
use Rattle.units.specs.declared.refusals.WordPlace.{WordPlace}

abbrev pub layer_text : Layer → List ℕ
layer_text Frame = codes "frame"
layer_text Life = codes "life"

-- the layer, a space, and the place
abbrev pub place_text : WordPlace → List ℕ
place_text w = layer_text w.layer ++ (32 ∷ decimal w.place)

-- the decimal digits of a number, with zeros in front up to two
abbrev pub two_digits : ℕ → List ℕ
two_digits n = padded_integral (format_spec 32 0 4 2 (2 ^ 64 - 1)) false [] (digits 10 false n)

-- the number of a refusal, and for 6, 7 and 8 a space, the layer and the place
abbrev pub refusal_text : Refused → List ℕ
refusal_text (refused n) = two_digits n
refusal_text (refused_at n l p) = two_digits n ++ (32 ∷ place_text (record { layer = l; place = p }))
