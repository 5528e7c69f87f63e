-- What a reader of items tells, from turn to turn.
use Rattle.std.proofs.Common.{◌≡◌, ◌∙◌, sym, ap, refl, subst, ℕ, List, ◌∷◌, Option, Some, None, Ok, Err, rules}
use Rattle.io_edge.specs.Told.{WhereTold}
use Rattle.io_edge.specs.Reading.{rest_of}
use Rattle.icnf_reader.specs.Outcomes.{Point, Outcome, reads, doing, follow, put_item, nothing, at_end, start, text_reads, statements_of}
use Rattle.icnf_reader.specs.Script.{text_tokens}
use Rattle.icnf_reader.specs.Grammar.{Clause, Card, Query}
use Rattle.io_edge.specs.Lines.{lines}
use Rattle.icnf_reader.specs.declared.reader.Mode.{Mode}
use Rattle.icnf_reader.specs.declared.reader.Mode.TheVariants.{Start, Kind, Vars, Clauses, Between, InClause, InQuery, Bound, InCard}
use Rattle.icnf_reader.specs.declared.item.Heads.{Heads}
use Rattle.icnf_reader.specs.WordState.{WordState, GivesWord, GivesEnd, tokens_left, left_over, last_line, WordAnswers, TakesLines, BreaksOff}
use Rattle.icnf_reader.specs.ReadState.{ReadState, outcome, Takes, ReadAnswers, SameOutcome, GivesItem, over, LeadsOver, StopsOver, ReadsOver, read_is_last, end_answer, at_start}
use Rattle.icnf_reader.specs.declared.item.Item.{Item}
use Rattle.icnf_reader.specs.declared.item.Item.TheVariants as item
use Rattle.icnf_reader.specs.declared.words.WordGot.TheVariants as got
use Rattle.icnf_reader.specs.declared.item.Stop.TheVariants as stop
use Rattle.icnf_reader.specs.Tokens.{CutOff, Fault}
use Rattle.icnf_reader.specs.Script.{Bad}
use Rattle.icnf_reader.proofs.Left.{told_both, told_more, told_left, told_then, told_refl, lines_then, not_ended}
use Rattle.std.specs.Prelude.{[], ◌++◌, Bool, true, false, Result, IsErr}
use Rattle.icnf_reader.specs.declared.item.Stop.{Stop}
use Rattle.std.proofs.Common.{append_assoc, arith, length, ◌+◌}
use Rattle.std.specs.Prelude.{max}

-- a word is read
word_read : (s : ReadState) (mid : WordState) (n : ℕ) (before after : List ℕ) → GivesWord s.words mid n before after
    → outcome s before ≡ follow (doing s.point.mode mid.text) n s.point (λ q. reads (tokens_left mid after) q (last_line mid after))
word_read s mid n before after g = ap (λ ts. reads ts s.point (last_line s.words before)) g.first
    ∙ ap (λ last. follow (doing s.point.mode mid.text) n s.point (λ q. reads (tokens_left mid after) q last)) g.last

-- a word that closes nothing
none_closed : (s new : ReadState) (mid : WordState) (n : ℕ) → new.words ≡ mid → Takes n mid.text s.point new.point (Ok None) → (x y : List ℕ) → GivesWord s.words mid n x y
    → SameOutcome s new x y
none_closed s new mid n same t x y g = word_read s mid n x y g ∙ t (λ q. reads (tokens_left mid y) q (last_line mid y))
    ∙ ap (λ w. reads (tokens_left w y) new.point (last_line w y)) (sym same)

item_closed : (s new : ReadState) (mid : WordState) (n : ℕ) (i : Item) → new.words ≡ mid → Takes n mid.text s.point new.point (Ok (Some i)) → (x y : List ℕ) → GivesWord s.words mid n x y
    → GivesItem s new i x y
item_closed s new mid n i same t x y g = word_read s mid n x y g ∙ t.1 (λ q. reads (tokens_left mid y) q (last_line mid y))
    ∙ ap (λ w. put_item i (reads (tokens_left w y) new.point (last_line w y))) (sym same)

-- a turn that closes nothing
pub turn_on : (old now new : ReadState) (mid : WordState) (left left' left'' : Option (List ℕ)) (n : ℕ)
    → WhereTold (rest_of old.words.lines left) (rest_of now.words.lines left') (SameOutcome old now) → WordAnswers now.words mid left' left'' (Ok (got.Word n))
    → new.words ≡ mid → Takes n mid.text now.point new.point (Ok None)
    → WhereTold (rest_of old.words.lines left) (rest_of new.words.lines left'') (SameOutcome old new)
turn_on old now new mid left left' left'' n told word same t =
    let next : WhereTold (rest_of now.words.lines left') (rest_of mid.lines left'') (SameOutcome now new) =
    told_more (rest_of now.words.lines left') (rest_of mid.lines left'') (none_closed now new mid n same t) word in
    let P : WordState → Type 0 = λ w. WhereTold (rest_of old.words.lines left) (rest_of w.lines left'') (SameOutcome old new) in
    subst P (sym same) (told_both {P = SameOutcome old now} {Q = SameOutcome now new} (rest_of old.words.lines left) (rest_of now.words.lines left') (rest_of mid.lines left'') (λ x y z p q. p ∙ q) told next)

item_told : (old now new : ReadState) (mid : WordState) (left left' left'' : Option (List ℕ)) (n : ℕ) (i : Item)
    → WhereTold (rest_of old.words.lines left) (rest_of now.words.lines left') (SameOutcome old now) → WordAnswers now.words mid left' left'' (Ok (got.Word n))
    → new.words ≡ mid → Takes n mid.text now.point new.point (Ok (Some i))
    → WhereTold (rest_of old.words.lines left) (rest_of new.words.lines left'') (GivesItem old new i)
item_told old now new mid left left' left'' n i told word same t =
    let next : WhereTold (rest_of now.words.lines left') (rest_of mid.lines left'') (GivesItem now new i) =
    told_more (rest_of now.words.lines left') (rest_of mid.lines left'') (item_closed now new mid n i same t) word in
    let P : WordState → Type 0 = λ w. WhereTold (rest_of old.words.lines left) (rest_of w.lines left'') (GivesItem old new i) in
    subst P (sym same) (told_both {P = SameOutcome old now} {Q = GivesItem now new i} (rest_of old.words.lines left) (rest_of now.words.lines left') (rest_of mid.lines left'') (λ x y z p q. p ∙ q) told next)

-- a turn that closes an item
pub turn_item : (old now new : ReadState) (mid : WordState) (left left' left'' : Option (List ℕ)) (n : ℕ) (i : Item)
    → WhereTold (rest_of old.words.lines left) (rest_of now.words.lines left') (SameOutcome old now) → WordAnswers now.words mid left' left'' (Ok (got.Word n))
    → new.words ≡ mid → Takes n mid.text now.point new.point (Ok (Some i)) → ReadAnswers old new left left'' (Ok i)
turn_item old now new mid left left' left'' n item.End told word same t = absurd t.0
turn_item old now new mid left left' left'' n (item.Header h) told word same t = item_told old now new mid left left' left'' n (item.Header h) told word same t
turn_item old now new mid left left' left'' n (item.Clause ls) told word same t = item_told old now new mid left left' left'' n (item.Clause ls) told word same t
turn_item old now new mid left left' left'' n (item.Card b ls) told word same t = item_told old now new mid left left' left'' n (item.Card b ls) told word same t
turn_item old now new mid left left' left'' n (item.Query ls) told word same t = item_told old now new mid left left' left'' n (item.Query ls) told word same t

-- a word is read, whatever comes behind the lines that were taken
word_leads : (f : Outcome → Outcome) (s new : ReadState) (mid : WordState) (n : ℕ) → new.words ≡ mid → ((go : Point → Outcome) → follow (doing s.point.mode mid.text) n s.point go ≡ f (go new.point))
    → (x y : List ℕ) → GivesWord s.words mid n x y → LeadsOver s new f x y
word_leads f s new mid n same t x y g =
    let P : WordState → Type 0 = λ w. TakesLines g.pieces w.lines.ended x y in
    record {
      pieces = g.pieces;
      taken = subst P (sym same) g.taken;
      leads = λ others tail last. ap (λ ts. reads (ts ++ tail) s.point last) (g.over others)
          ∙ t (λ q. reads (left_over mid others ++ tail) q last) ∙ ap (λ w. f (reads (left_over w others ++ tail) new.point last)) (sym same);
    }

leads_then : (f : Outcome → Outcome) (old now new : ReadState) (x y z : List ℕ) → (now.words.lines.ended ≡ true → new.words.lines.ended ≡ true)
    → LeadsOver old now (λ o. o) x y → LeadsOver now new f y z → LeadsOver old new f x z
leads_then f old now new x y z stays p q = record {
  pieces = p.pieces ++ q.pieces;
  taken = lines_then p.pieces q.pieces now.words.lines.ended new.words.lines.ended x y z (not_ended now.words.lines.ended new.words.lines.ended stays) p.taken q.taken;
  leads = λ others tail last. ap (λ ls. over old ls tail last) (append_assoc p.pieces q.pieces others) ∙ p.leads (q.pieces ++ others) tail last ∙ q.leads others tail last;
}

-- a turn, by the lines that were taken
pub turn_over : (f : Outcome → Outcome) (old now new : ReadState) (mid : WordState) (left left' left'' : Option (List ℕ)) (n : ℕ)
    → WhereTold (rest_of old.words.lines left) (rest_of now.words.lines left') (LeadsOver old now (λ o. o)) → WordAnswers now.words mid left' left'' (Ok (got.Word n))
    → new.words ≡ mid → (now.words.lines.ended ≡ true → mid.lines.ended ≡ true) → ((go : Point → Outcome) → follow (doing now.point.mode mid.text) n now.point go ≡ f (go new.point))
    → WhereTold (rest_of old.words.lines left) (rest_of new.words.lines left'') (LeadsOver old new f)
turn_over f old now new mid left left' left'' n told word same stays t =
    let next : WhereTold (rest_of now.words.lines left') (rest_of mid.lines left'') (LeadsOver now new f) =
    told_more (rest_of now.words.lines left') (rest_of mid.lines left'') (word_leads f now new mid n same t) word in
    let P : WordState → Type 0 = λ w. WhereTold (rest_of old.words.lines left) (rest_of w.lines left'') (LeadsOver old new f) in
    subst P (sym same) (told_both (rest_of old.words.lines left) (rest_of now.words.lines left') (rest_of mid.lines left'')
    (λ x y z. leads_then f old now new x y z (λ e. ap (λ w. w.lines.ended) same ∙ stays e)) told next)

pub item_over : (old now new : ReadState) (mid : WordState) (left left' left'' : Option (List ℕ)) (n : ℕ) (i : Item)
    → WhereTold (rest_of old.words.lines left) (rest_of now.words.lines left') (LeadsOver old now (λ o. o)) → WordAnswers now.words mid left' left'' (Ok (got.Word n))
    → new.words ≡ mid → (now.words.lines.ended ≡ true → mid.lines.ended ≡ true) → Takes n mid.text now.point new.point (Ok (Some i)) → ReadsOver old new left left'' (Ok i)
item_over old now new mid left left' left'' n item.End told word same stays t = absurd t.0
item_over old now new mid left left' left'' n (item.Header h) told word same stays t = turn_over (put_item (item.Header h)) old now new mid left left' left'' n told word same stays t.1
item_over old now new mid left left' left'' n (item.Clause ls) told word same stays t = turn_over (put_item (item.Clause ls)) old now new mid left left' left'' n told word same stays t.1
item_over old now new mid left left' left'' n (item.Card b ls) told word same stays t = turn_over (put_item (item.Card b ls)) old now new mid left left' left'' n told word same stays t.1
item_over old now new mid left left' left'' n (item.Query ls) told word same stays t = turn_over (put_item (item.Query ls)) old now new mid left left' left'' n told word same stays t.1

stops : (old now : ReadState) (x y z : List ℕ) → (old.words.lines.ended ≡ true → now.words.lines.ended ≡ true) → LeadsOver old now (λ o. o) x y → BreaksOff now.words y z → StopsOver old x z
stops old now x y z stays p b =
    let taken = lines_then p.pieces b.pieces now.words.lines.ended false x y (b.part ++ z) (λ e. b.going) p.taken b.taken in
    record {
      pieces = p.pieces ++ b.pieces;
      part = b.part;
      taken = taken;
      no_end = b.no_end;
      none = λ last. p.leads b.pieces (CutOff ∷ []) last ∙ ap (λ ts. reads (ts ++ CutOff ∷ []) now.point last) b.none;
      going = not_ended old.words.lines.ended now.words.lines.ended stays b.going;
    }

-- a turn that is cut off
pub turn_stops : (old now : ReadState) (mid : WordState) (left left' left'' : Option (List ℕ)) → (old.words.lines.ended ≡ true → now.words.lines.ended ≡ true)
    → WhereTold (rest_of old.words.lines left) (rest_of now.words.lines left') (LeadsOver old now (λ o. o)) → WordAnswers now.words mid left' left'' (Err stop.ReadFault)
    → WhereTold (rest_of old.words.lines left) (rest_of mid.lines left'') (StopsOver old)
turn_stops old now mid left left' left'' stays told off = told_both (rest_of old.words.lines left) (rest_of now.words.lines left') (rest_of mid.lines left'')
    (λ x y z. stops old now x y z stays) told off

-- a turn that goes wrong at a line
pub stop_answers : (old now new : ReadState) (mid : WordState) (left left' left'' : Option (List ℕ)) (s : Stop) → WhereTold (rest_of old.words.lines left) (rest_of now.words.lines left') (SameOutcome old now)
    → WordAnswers now.words mid left' left'' (Err s) → ReadAnswers old new left left'' (Err s)
stop_answers old now new mid left left' left'' (stop.Bad n why) told bad =
    told_then {P = SameOutcome old now} {Q = λ rest. tokens_left now.words rest ≡ Fault n why ∷ []} {R = λ rest. outcome old rest ≡ nothing (Bad n why)} (rest_of old.words.lines left) (rest_of now.words.lines left')
    (λ x y p q. p ∙ ap (λ ts. reads ts now.point (last_line now.words y)) q) told bad
stop_answers old now new mid left left' left'' stop.ReadFault told bad = tt
stop_answers old now new mid left left' left'' stop.Memory told bad = tt

pub stop_over : (old now new : ReadState) (mid : WordState) (left left' left'' : Option (List ℕ)) (s : Stop) → (old.words.lines.ended ≡ true → now.words.lines.ended ≡ true) → new.words ≡ mid
    → WhereTold (rest_of old.words.lines left) (rest_of now.words.lines left') (LeadsOver old now (λ o. o)) → WordAnswers now.words mid left' left'' (Err s) → ReadsOver old new left left'' (Err s)
stop_over old now new mid left left' left'' (stop.Bad n why) stays same told off = tt
stop_over old now new mid left left' left'' stop.ReadFault stays same told off =
    let P : WordState → Type 0 = λ w. WhereTold (rest_of old.words.lines left) (rest_of w.lines left'') (StopsOver old) in
    subst P (sym same) (turn_stops old now mid left left' left'' stays told off)
stop_over old now new mid left left' left'' stop.Memory stays same told off = tt

-- no line was taken yet
pub leads_none : (s : ReadState) (left : Option (List ℕ)) → WhereTold (rest_of s.words.lines left) (rest_of s.words.lines left) (LeadsOver s s (λ o. o))
leads_none s left = told_refl (LeadsOver s s (λ o. o)) (rest_of s.words.lines left) (λ x. record { pieces = []; taken = record { bytes = refl; whatever = λ e more. refl }; leads = λ others tail last. refl })

-- a stop is the last answer
pub err_last : (r : Result Item Stop) (b : Bool) → IsErr r → b ≡ true → b ≡ read_is_last r
err_last (Ok i) b h e = search rules
err_last (Err x) b h e = e

-- whether a reader is done changes nothing of what is to come
pub answer_done : (old new : ReadState) (d : Bool) (left left' : Option (List ℕ)) (i : Item) → ReadAnswers old new left left' (Ok i)
    → ReadAnswers old (record { words = new.words; point = new.point; done = d }) left left' (Ok i)
answer_done old new d left left' item.End a = a
answer_done old new d left left' (item.Header h) a = a
answer_done old new d left left' (item.Clause ls) a = a
answer_done old new d left left' (item.Card b ls) a = a
answer_done old new d left left' (item.Query ls) a = a

leads_done : (f : Outcome → Outcome) (old new : ReadState) (d : Bool) (x y : List ℕ) → LeadsOver old new f x y → LeadsOver old (record { words = new.words; point = new.point; done = d }) f x y
leads_done f old new d x y a = record { pieces = a.pieces; taken = a.taken; leads = a.leads }

pub over_done : (old new : ReadState) (d : Bool) (left left' : Option (List ℕ)) (i : Item) → ReadsOver old new left left' (Ok i)
    → ReadsOver old (record { words = new.words; point = new.point; done = d }) left left' (Ok i)
over_done old new d left left' item.End a = a
over_done old new d left left' (item.Header h) a = told_more (rest_of old.words.lines left) (rest_of new.words.lines left') (λ x y. leads_done (put_item (item.Header h)) old new d x y) a
over_done old new d left left' (item.Clause ls) a = told_more (rest_of old.words.lines left) (rest_of new.words.lines left') (λ x y. leads_done (put_item (item.Clause ls)) old new d x y) a
over_done old new d left left' (item.Card b ls) a = told_more (rest_of old.words.lines left) (rest_of new.words.lines left') (λ x y. leads_done (put_item (item.Card b ls)) old new d x y) a
over_done old new d left left' (item.Query ls) a = told_more (rest_of old.words.lines left) (rest_of new.words.lines left') (λ x y. leads_done (put_item (item.Query ls)) old new d x y) a

-- no word is left
end_item : (old now : ReadState) (last : ℕ) (x y z : List ℕ) → SameOutcome old now x y → GivesEnd now.words last y z → (outcome old x ≡ nothing (at_end now.point.mode last)) × (z ≡ [])
end_item old now last x y z same g = (
  same ∙ ap (λ ts. reads ts now.point (last_line now.words y)) g.none ∙ ap (λ n. nothing (at_end now.point.mode n)) (sym g.last),
  g.rest,
)

end_said : (m : Mode) (old new : ReadState) (last : ℕ) (left left' : Option (List ℕ))
    → WhereTold (rest_of old.words.lines left) (rest_of new.words.lines left') (λ x z. (outcome old x ≡ nothing (at_end m last)) × (z ≡ []))
    → ReadAnswers old new left left' (end_answer m last)
end_said (Start heads) old new last left left' a = told_left (rest_of old.words.lines left) (rest_of new.words.lines left') (λ x z p. p.0) a
end_said (Kind heads) old new last left left' a = told_left (rest_of old.words.lines left) (rest_of new.words.lines left') (λ x z p. p.0) a
end_said (Vars heads kind) old new last left left' a = told_left (rest_of old.words.lines left) (rest_of new.words.lines left') (λ x z p. p.0) a
end_said (Clauses heads kind vars) old new last left left' a = told_left (rest_of old.words.lines left) (rest_of new.words.lines left') (λ x z p. p.0) a
end_said (Between may) old new last left left' a = a
end_said (InClause may) old new last left left' a = told_left (rest_of old.words.lines left) (rest_of new.words.lines left') (λ x z p. p.0) a
end_said (InQuery may) old new last left left' a = told_left (rest_of old.words.lines left) (rest_of new.words.lines left') (λ x z p. p.0) a
end_said (Bound may) old new last left left' a = told_left (rest_of old.words.lines left) (rest_of new.words.lines left') (λ x z p. p.0) a
end_said (InCard may b) old new last left left' a = told_left (rest_of old.words.lines left) (rest_of new.words.lines left') (λ x z p. p.0) a

pub end_told : (old now new : ReadState) (left left' left'' : Option (List ℕ)) (last : ℕ) (r : Result Item Stop)
    → WhereTold (rest_of old.words.lines left) (rest_of now.words.lines left') (SameOutcome old now)
    → WhereTold (rest_of now.words.lines left') (rest_of new.words.lines left'') (GivesEnd now.words last) → r ≡ end_answer now.point.mode last
    → ReadAnswers old new left left'' r
end_told old now new left left' left'' last r told gone is =
    let P : Result Item Stop → Type 0 = λ x. ReadAnswers old new left left'' x in
    subst P (sym is) (end_said now.point.mode old new last left left'' (told_both {P = SameOutcome old now} {Q = GivesEnd now.words last} (rest_of old.words.lines left) (rest_of now.words.lines left') (rest_of new.words.lines left'') (end_item old now last) told gone))

-- what a reader at its start is to give is what the text says
pub outcome_at_start : (heads : Heads) (bytes : List ℕ) → outcome (at_start heads) bytes ≡ text_reads heads bytes
outcome_at_start heads bytes = ap (λ n. reads (text_tokens bytes) (start heads) (max 1 n)) (zero_add (length (lines bytes)))
  where
    zero_add : (n : ℕ) → 0 + n ≡ n
    zero_add n = omega arith

-- the statements among items and then others
pub statements_of-append : (xs ys : List Item) → statements_of (xs ++ ys) ≡ statements_of xs ++ statements_of ys
statements_of-append [] ys = refl
statements_of-append (item.End ∷ xs) ys = statements_of-append xs ys
statements_of-append (item.Header h ∷ xs) ys = statements_of-append xs ys
statements_of-append (item.Clause ls ∷ xs) ys = ap (λ ss. Clause ls ∷ ss) (statements_of-append xs ys)
statements_of-append (item.Card b ls ∷ xs) ys = ap (λ ss. Card b ls ∷ ss) (statements_of-append xs ys)
statements_of-append (item.Query ls ∷ xs) ys = ap (λ ss. Query ls ∷ ss) (statements_of-append xs ys)
