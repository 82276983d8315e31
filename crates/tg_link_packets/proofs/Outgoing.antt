-- What a node sends goes out one by one.
use Rattle.std.specs.Prelude.{◌≡◌, ℕ, ◌==◌, Bool, true, false, List, [], ◌∷◌, ◌++◌, map, length, slice_get, remove, Option, Some, None, refl}
use Rattle.std.proofs.Common.{sym, ap, subst, ◌∙◌, arith}
use Rattle.std.proofs.lemmas.Bool.Decides.{nat_tests}
use Rattle.std.proofs.lemmas.List.{append_assoc, append-nil, map-append}
use Rattle.tg_base.specs.declared.ids.NodeId.{NodeId}
use Rattle.tg_base.specs.declared.packet.Out.{Out}
use Rattle.tg_base.specs.declared.packet.Packet.{Packet}
use Rattle.tg_io.specs.Acts.{Act, Goes}
use Rattle.tg_io.specs.Bytes.{Grows}
use Rattle.tg_io.specs.declared.link.Sent.{Sent}
use Rattle.tg_io.proofs.Bytes.{grows_none, grows_more}
use Rattle.tg_link_packets.specs.Mail.{Outgoing, GoesOut, IsCutOff, sent_of, all_sent, all_gone, packet_from, packets_from}

-- some of all went out, and the rest is left
pub record Sending (before : Outgoing) (node : NodeId) (all rest : List Out) (now : Outgoing) : Type 0 where
  pub done : List Out
  pub split : all ≡ done ++ rest
  pub gone : GoesOut before (packets_from node done) now

pub sending_none : (before : Outgoing) (n : NodeId) (all : List Out) → Sending before n all all before
sending_none before n all = record { done = []; split = refl; gone = record { sent = grows_none before.sent; acts = grows_none before.acts } }

head_of : {X : Type 0} (xs : List X) (x : X) → slice_get xs 0 ≡ Some x → xs ≡ x ∷ remove xs 0
head_of [] x h = let e : None ≡ Some x = h in absurd cc
head_of (y ∷ xs) x h = let e : Some y ≡ Some x = h in let same : y ≡ x = cc in ap (λ (z : _). z ∷ xs) same

is_zero : (n : ℕ) → (n == 0) ≡ true → n ≡ 0
is_zero n e = grind (arith, nat_tests)

empty : {X : Type 0} (xs : List X) → length xs ≡ 0 → xs ≡ []
empty [] e = refl
empty (x ∷ xs) e = absurd (omega (arith, e))

sent_last : (n : NodeId) (done : List Out) (o : Out) → all_sent (packets_from n (done ++ o ∷ [])) ≡ all_sent (packets_from n done) ++ sent_of (packet_from n o) ∷ []
sent_last n [] o = refl
sent_last n (x ∷ done) o = ap (λ (l : List Sent). sent_of (packet_from n x) ∷ l) (sent_last n done o)

gone_last : (n : NodeId) (done : List Out) (o : Out) → all_gone (packets_from n (done ++ o ∷ [])) ≡ all_gone (packets_from n done) ++ Goes (sent_of (packet_from n o)) ∷ []
gone_last n [] o = refl
gone_last n (x ∷ done) o = ap (λ (l : List Act). Goes (sent_of (packet_from n x)) ∷ l) (gone_last n done o)

pub sending_next : (before : Outgoing) (n : NodeId) (all rest left : List Out) (now after : Outgoing) (o : Out) → Sending before n all rest now → slice_get rest 0 ≡ Some o → left ≡ remove rest 0
    → GoesOut now (packet_from n o ∷ []) after → Sending before n all left after
sending_next before n all rest left now after o h at e adds = record {
  done = h.done ++ o ∷ [];
  split = h.split ∙ ap (λ (l : List Out). h.done ++ l) (head_of rest o at ∙ ap (λ (l : List Out). o ∷ l) (sym e)) ∙ sym (append_assoc h.done (o ∷ []) left);
  gone = record {
    sent = subst (λ (l : List Sent). Grows before.sent l after.sent) (sym (sent_last n h.done o))
        (grows_more before.sent now.sent after.sent (all_sent (packets_from n h.done)) (sent_of (packet_from n o) ∷ []) h.gone.sent adds.sent);
    acts = subst (λ (l : List Act). Grows before.acts l after.acts) (sym (gone_last n h.done o))
        (grows_more before.acts now.acts after.acts (all_gone (packets_from n h.done)) (Goes (sent_of (packet_from n o)) ∷ []) h.gone.acts adds.acts);
  };
}

pub sending_end : (before : Outgoing) (n : NodeId) (all rest : List Out) (now : Outgoing) (b : Bool) → Sending before n all rest now → b ≡ (length rest == 0) → b ≡ true → GoesOut before (packets_from n all) now
sending_end before n all rest now b h e t =
    let none : rest ≡ [] = empty rest (is_zero (length rest) (sym e ∙ t)) in
    let whole : all ≡ h.done = h.split ∙ ap (λ (l : List Out). h.done ++ l) none ∙ append-nil h.done in
    subst (λ (l : List Out). GoesOut before (packets_from n l) now) (sym whole) h.gone

-- the next fails: the rest has one that isn't sent
pub sending_fails : (before : Outgoing) (n : NodeId) (all rest : List Out) (now after : Outgoing) (b : Bool) → Sending before n all rest now → b ≡ (length rest == 0) → b ≡ false
    → after.sent ≡ now.sent → after.acts ≡ now.acts → IsCutOff n all before after
sending_fails before n all [] now after b h e f s a = let same : true ≡ false = sym e ∙ f in absurd cc
sending_fails before n all (o ∷ rest) now after b h e f s a = record {
  done = h.done;
  failed = o;
  rest = rest;
  split = h.split;
  gone = record {
    sent = subst (λ (x : Option (List Sent)). Grows before.sent (all_sent (packets_from n h.done)) x) (sym s) h.gone.sent;
    acts = subst (λ (x : Option (List Act)). Grows before.acts (all_gone (packets_from n h.done)) x) (sym a) h.gone.acts;
  };
}
