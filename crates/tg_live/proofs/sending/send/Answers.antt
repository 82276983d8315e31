use Rattle.std.proofs.Common.{◌≡◌, ◌∙◌, ℕ, List, [], ◌∷◌, ◌++◌, sym, subst}
use Rattle.std.proofs.lemmas.List.{length-map}
use Rattle.tg_base.specs.declared.packet.Packet.{Packet}
use Rattle.tg_live.specs.Books.{IsBook, GoesTo}
use Rattle.tg_live.specs.Matching.{Sent as Datagrams}
use Rattle.tg_wire.specs.Packets.{packet}
use Rattle.tg_live.specs.Sends.{spellings}
use Rattle.tg_live.proofs.Packets.{goes_to, spellings_more, on_ok_any}
use Rattle.tg_live.proofs.sending.send.Goals as goal

pub returns-clause-noted : goal.returns-clause-noted
returns-clause-noted g c = λ ps delivered fit next h.
    let value = c.args.value.now in
    let bytes : c.as_slice.result.now ≡ packet.spell value = c.as_slice.ensures ∙ c.in_ok-datagram.ensures.spelled in
    let goes : GoesTo (spellings ps) c.as_slice.result.now value.to =
    subst (λ (d : List ℕ). GoesTo (spellings ps) d value.to) (sym bytes) (goes_to ps value c.no_spelling_begins_another.ensures fit c.in_ok-datagram.ensures.fits) in
    let noted : IsBook c.note.new.self (spellings ps ++ (value.to, c.as_slice.result.now) ∷ []) delivered = c.in_ok-note.ensures.noted (spellings ps) delivered h (next ∙ sym (length-map ps (λ (p : Packet). (p.to, packet.spell p)))) goes in
    let spelled : IsBook c.note.new.self (spellings ps ++ (value.to, packet.spell value) ∷ []) delivered =
    subst (λ (d : List ℕ). IsBook c.note.new.self (spellings ps ++ (value.to, d) ∷ []) delivered) bytes noted in
    on_ok_any c.send.result (subst (λ (s : Datagrams). IsBook c.note.new.self s delivered) (sym (spellings_more ps value)) spelled)
