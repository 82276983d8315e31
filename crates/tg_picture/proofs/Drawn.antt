-- The parts of a picture's text, put together.
use Rattle.std.specs.Prelude.{◌≡◌, ℕ, List, ◌++◌, codes, refl}
use Rattle.std.proofs.Common.{ap, ◌∙◌, append_assoc}
use Rattle.std.specs.List.{flat_map}
use Rattle.tg_picture.specs.Elements.{IsDrawn, arrow_text, replies_text, boxes_text}
use Rattle.tg_picture.specs.declared.picture.Picture.{Picture}
use Rattle.tg_picture.specs.declared.svg.places.Places.{Places}

joined : (o b a x r y c n e : List ℕ) → o ++ (b ++ a ++ x ++ r ++ y ++ c) ++ n ++ e ≡ (o ++ b) ++ a ++ x ++ r ++ y ++ c ++ (n ++ e)
joined o b a x r y c n e = simp append_assoc refl

pub drawn : (p : Picture) (places : Places) (width top : ℕ) (opening below above beside body notes text : List ℕ)
    → body ≡ below ++ flat_map (arrow_text places) p.arrows ++ above ++ replies_text places 0 0 p.replies ++ beside ++ boxes_text width (12, top) p.boxes
    → text ≡ opening ++ body ++ notes ++ codes "</svg>\n" → IsDrawn p text
drawn p places width top opening below above beside body notes text parts is = record {
  places = places;
  width = width;
  top = top;
  before = opening ++ below;
  above = above;
  beside = beside;
  after = notes ++ codes "</svg>\n";
  is =
      is ∙ ap (λ (b : List ℕ). opening ++ b ++ notes ++ codes "</svg>\n") parts
      ∙ joined opening below (flat_map (arrow_text places) p.arrows) above (replies_text places 0 0 p.replies) beside (boxes_text width (12, top) p.boxes) notes (codes "</svg>\n");
}
