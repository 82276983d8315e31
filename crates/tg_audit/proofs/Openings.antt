-- The objects of a transcript are those of a header.
use Rattle.std.proofs.Common.{◌≡◌, ℕ, List, [], ◌∷◌, Bool, true, false, refl, sym, ap, ◌∙◌, length, arith}
use Rattle.std.specs.Prelude.{not, ◌&&◌, ◌||◌, ◌==◌, nat_le, nat_lt, map}
use Rattle.std.specs.List.{list_all, list_any}
use Rattle.std.proofs.lemmas.Bool.Decides.{nat_tests}
use Rattle.tg_base.specs.Clusters.{number_of, is_user_object, are_objects}
use Rattle.tg_base.specs.Units.{has, is_distinct, is_rising}
use Rattle.tg_base.specs.declared.ids.Oid.{Oid}
use Rattle.tg_any.specs.Words.{object}
use Rattle.tg_kind.specs.Headers.{directory, names, distinct, is_header}
use Rattle.tg_trace.specs.Transcripts.{objects, reply, entry, count, stamps, is_transcript}
use Rattle.tg_trace.specs.declared.transcript.Transcript.{Transcript}

and_left : (a b : Bool) → (a && b) ≡ true → a ≡ true
and_left true b e = refl
and_left false b e = absurd cc

and_right : (a b : Bool) → (a && b) ≡ true → b ≡ true
and_right true b e = e
and_right false b e = absurd cc

both : (a b : Bool) → a ≡ true → b ≡ true → (a && b) ≡ true
both true b e f = f
both false b e f = absurd cc

names_are : (o : Oid) (os : List Oid) → names o os ≡ has (map number_of os) o.0
names_are o [] = refl
names_are o (p ∷ os) = ap (λ b. (p.0 == o.0) || b) (names_are o os)

distinct_are : (os : List Oid) → distinct os ≡ is_distinct (map number_of os)
distinct_are [] = refl
distinct_are (o ∷ os) =
    ap (λ b. not b && distinct os) (names_are o os) ∙ ap (λ b. not (has (map number_of os) o.0) && b) (distinct_are os)

no_directory : (p : Oid) → is_user_object p ≡ true → (p.0 == 0) ≡ false
no_directory p e =
    let least : nat_le 0x1000000 p.0 ≡ true = and_left (nat_le 0x1000000 p.0) (nat_lt p.0 0x7000000) e in
    grind (arith, nat_tests)

without_directory : (os : List Oid) → list_all is_user_object os ≡ true → names directory os ≡ false
without_directory [] e = refl
without_directory (p ∷ os) e =
    ap (λ b. b || names directory os) (no_directory p (and_left (is_user_object p) (list_all is_user_object os) e))
    ∙ without_directory os (and_right (is_user_object p) (list_all is_user_object os) e)

objects_are : (os : List Oid) → are_objects os ≡ true → is_header os ≡ true
objects_are os e =
    let few = nat_le (length os) 256 in
    let user = list_all is_user_object os in
    let apart = is_distinct (map number_of os) in
    let first = and_left (few && user) apart e in
    both (few && distinct os) (not (names directory os))
    (both few (distinct os) (and_left few user first) (distinct_are os ∙ and_right (few && user) apart e))
    (ap not (without_directory os (and_right few user first)))

pub header_is : (t : Transcript) → is_transcript t ≡ true → is_header t.objects ≡ true
unfolding is_transcript
header_is t e =
    let a = objects.fits t.objects in
    let b = list_all reply.fits t.trace in
    let c = count.fits (length t.history) in
    let d = list_all entry.fits t.history in
    let f = is_rising (stamps t.history) in
    objects_are t.objects (and_right (list_all object.fits t.objects) (are_objects t.objects) (and_left a b (and_left (a && b) c (and_left (a && b && c) d (and_left (a && b && c && d) f e)))))
