-- The words that are read one after another are the sequences of items.
use Rattle.std.proofs.Common.{◌≡◌, ◌∙◌, sym, ap, refl, subst, arith, ⊎_elim, inl, inr, ℕ, zero, suc, ◌+◌, ◌<◌, ◌≤◌, Bool, true, false, List, [], ◌∷◌, ◌++◌, length, drop, get_or, map, add-one, Option, Some, None, append_assoc}
use Rattle.std.specs.Prelude.{◌⊎◌, ◌≢◌, ◌==◌, codes, if◌then◌else◌, is_some, IfNone}
use Rattle.std.specs.Str.{bytes_eq}
use Rattle.std.proofs.lemmas.Bool.{eqb-true}
use Rattle.std.proofs.lemmas.Slice.Eq.{bytes_eq-Decides}
use Rattle.icnf_reader.specs.Numbers.{plain_place, IsAtMost}
use Rattle.icnf_reader.proofs.Declared.{plain_most}
use Rattle.std.proofs.lemmas.List.{drop_more, drop_all}
use Rattle.icnf_reader.specs.declared.numbers.PlainWord.{PlainWord}
use Rattle.icnf_reader.specs.declared.numbers.PlainWord.TheVariants as plain
use Rattle.icnf_runner.specs.declared.options.Options.{Options}
use Rattle.icnf_runner.specs.declared.options.Choice.{Choice}
use Rattle.icnf_runner.specs.declared.options.Choice.TheVariants as choice
use Rattle.icnf_runner.specs.declared.options.Name.{Name}
use Rattle.icnf_runner.specs.declared.options.Name.TheVariants as names
use Rattle.icnf_runner.specs.declared.options.Found.{Found}
use Rattle.sat_terms.specs.Limits.{max_number}
use Rattle.icnf_runner.specs.Options.{nothing_stated, Item, Conflicts, Callbacks, Steps, Check, name_of, AreNumbered, AreWordsOf, AreItems, NoneNamed, NamesOnce, with_item, stated_over, Accepts, IsInRange}
use Rattle.icnf_runner.specs.Items.{name_text, rest_after, numbered, behind_equals, first_of, one_word, two_words, add_conflicts, add_callbacks, add_steps, add_check, add_choice, and_then, chosen, parse, nothing_found, options_by, IsFirst, BeginsNone}
use Rattle.icnf_runner.specs.Runs.{AreAccepted}

-- the item of a choice
abbrev pub item_of : Choice → Item
item_of (choice.Number names.Conflicts n) = Conflicts n
item_of (choice.Number names.Callbacks n) = Callbacks n
item_of (choice.Number names.Steps n) = Steps n
item_of choice.Check = Check

abbrev pub choice_of : Item → Choice
choice_of (Conflicts n) = choice.Number names.Conflicts n
choice_of (Callbacks n) = choice.Number names.Callbacks n
choice_of (Steps n) = choice.Number names.Steps n
choice_of Check = choice.Check

abbrev pub add_all : List Item → Found → Option Found
add_all [] f = Some f
add_all (i ∷ is) f = and_then (add_choice (choice_of i) f) (add_all is)

-- what follows a name is the rest of the word
rest_is : (name w rest : List ℕ) → rest_after name w ≡ Some rest → w ≡ name ++ rest
rest_is [] w rest e = cc
rest_is (b ∷ bs) [] rest e = absurd (cc)
rest_is (b ∷ bs) (c ∷ cs) rest e = on (c == b) refl e (rest_is bs cs rest)
  where
    on : (x : Bool) → (c == b) ≡ x → (if x then rest_after bs cs else None) ≡ Some rest → (rest_after bs cs ≡ Some rest → cs ≡ bs ++ rest) → c ∷ cs ≡ b ∷ bs ++ rest
    on true is f more = let same : c ≡ b = eqb-true c b is in ap (λ x. x ∷ cs) same ∙ ap (λ l. b ∷ l) (more f)
    on false is f more = absurd (cc)

-- a choice of one word, with its words
numbered_is : (name : Name) (x : PlainWord) (c : Choice) → numbered name x ≡ Some c → (n : ℕ) × (x ≡ plain.Value n) × (c ≡ choice.Number name n)
numbered_is name (plain.Value n) c e = (n, refl, let same : choice.Number name n ≡ c = cc in sym same)
numbered_is name plain.Large c e = absurd (cc)
numbered_is name plain.Other c e = absurd (cc)

words_of_number : (name : Name) (n : ℕ) (ws : List (List ℕ)) → AreNumbered (name_text name) n ws → AreWordsOf (item_of (choice.Number name n)) ws
words_of_number names.Conflicts n ws h = h
words_of_number names.Callbacks n ws h = h
words_of_number names.Steps n ws h = h

behind_is : (name : Name) (w : List ℕ) (o : Option (List ℕ)) (c : Choice) → rest_after (name_text name) w ≡ o → behind_equals name o ≡ Some c → AreWordsOf (item_of c) (w ∷ [])
behind_is name w None c is e = absurd (cc)
behind_is name w (Some []) c is e = absurd (cc)
behind_is name w (Some (b ∷ digits)) c is e = on (b == 61) refl e
  where
    on : (x : Bool) → (b == 61) ≡ x → (if x then numbered name (plain_place max_number digits) else None) ≡ Some c → AreWordsOf (item_of c) (w ∷ [])
    on true eq f =
        let n = numbered_is name (plain_place max_number digits) c f in
        let same : b ≡ 61 = eqb-true b 61 eq in
        let P : Choice → Type 0 = λ x. AreWordsOf (item_of x) (w ∷ []) in
        subst P (sym n.2) (words_of_number name n.0 (w ∷ []) (record {
          digits = digits;
          number = n.1;
          are = inr (ap (λ l. l ∷ []) (rest_is (name_text name) w (b ∷ digits) is ∙ ap (λ x. name_text name ++ x ∷ digits) same));
        }))
    on false eq f = absurd (cc)

one_is : (w : List ℕ) (c : Choice) → one_word w ≡ Some c → AreWordsOf (item_of c) (w ∷ [])
one_is w c e = check (bytes_eq w (codes "--check")) refl e
  where
    third : (o : Option Choice) → behind_equals names.Steps (rest_after (codes "--steps") w) ≡ o → o ≡ Some c → AreWordsOf (item_of c) (w ∷ [])
    third o is f = behind_is names.Steps w (rest_after (codes "--steps") w) c refl (is ∙ f)

    second : (o : Option Choice) → behind_equals names.Callbacks (rest_after (codes "--callbacks") w) ≡ o → first_of o (behind_equals names.Steps (rest_after (codes "--steps") w)) ≡ Some c → AreWordsOf (item_of c) (w ∷ [])
    second (Some d) is f = behind_is names.Callbacks w (rest_after (codes "--callbacks") w) c refl (is ∙ f)
    second None is f = third (behind_equals names.Steps (rest_after (codes "--steps") w)) refl f

    first : (o : Option Choice) → behind_equals names.Conflicts (rest_after (codes "--conflicts") w) ≡ o
        → first_of o (first_of (behind_equals names.Callbacks (rest_after (codes "--callbacks") w)) (behind_equals names.Steps (rest_after (codes "--steps") w))) ≡ Some c → AreWordsOf (item_of c) (w ∷ [])
    first (Some d) is f = behind_is names.Conflicts w (rest_after (codes "--conflicts") w) c refl (is ∙ f)
    first None is f = second (behind_equals names.Callbacks (rest_after (codes "--callbacks") w)) refl f

    check : (b : Bool) → bytes_eq w (codes "--check") ≡ b → (if b then Some choice.Check else first_of (behind_equals names.Conflicts (rest_after (codes "--conflicts") w)) (first_of (behind_equals names.Callbacks (rest_after (codes "--callbacks") w)) (behind_equals names.Steps (rest_after (codes "--steps") w)))) ≡ Some c
        → AreWordsOf (item_of c) (w ∷ [])
    check true is f =
        let same : choice.Check ≡ c = cc in
        let P : Choice → Type 0 = λ x. AreWordsOf (item_of x) (w ∷ []) in
        subst P same (ap (λ l. l ∷ []) ((bytes_eq-Decides w (codes "--check")).0 is))
    check false is f = first (behind_equals names.Conflicts (rest_after (codes "--conflicts") w)) refl f

two_number : (name : Name) (w v : List ℕ) (c : Choice) → bytes_eq w (name_text name) ≡ true → numbered name (plain_place max_number v) ≡ Some c → AreWordsOf (item_of c) (w ∷ v ∷ [])
two_number name w v c is f =
    let n = numbered_is name (plain_place max_number v) c f in
    let P : Choice → Type 0 = λ x. AreWordsOf (item_of x) (w ∷ v ∷ []) in
    subst P (sym n.2) (words_of_number name n.0 (w ∷ v ∷ []) (record { digits = v; number = n.1; are = inl (ap (λ l. l ∷ v ∷ []) ((bytes_eq-Decides w (name_text name)).0 is)) }))

two_is : (w v : List ℕ) (c : Choice) → two_words w v ≡ Some c → AreWordsOf (item_of c) (w ∷ v ∷ [])
two_is w v c e = first (bytes_eq w (codes "--conflicts")) refl e
  where
    third : (b : Bool) → bytes_eq w (codes "--steps") ≡ b → (if b then numbered names.Steps (plain_place max_number v) else None) ≡ Some c → AreWordsOf (item_of c) (w ∷ v ∷ [])
    third true is f = two_number names.Steps w v c is f
    third false is f = absurd (cc)

    second : (b : Bool) → bytes_eq w (codes "--callbacks") ≡ b → (if b then numbered names.Callbacks (plain_place max_number v) else if bytes_eq w (codes "--steps") then numbered names.Steps (plain_place max_number v) else None) ≡ Some c → AreWordsOf (item_of c) (w ∷ v ∷ [])
    second true is f = two_number names.Callbacks w v c is f
    second false is f = third (bytes_eq w (codes "--steps")) refl f

    first : (b : Bool) → bytes_eq w (codes "--conflicts") ≡ b
        → (if b then numbered names.Conflicts (plain_place max_number v) else if bytes_eq w (codes "--callbacks") then numbered names.Callbacks (plain_place max_number v) else if bytes_eq w (codes "--steps") then numbered names.Steps (plain_place max_number v) else None) ≡ Some c → AreWordsOf (item_of c) (w ∷ v ∷ [])
    first true is f = two_number names.Conflicts w v c is f
    first false is f = second (bytes_eq w (codes "--callbacks")) refl f

choice_back : (c : Choice) → choice_of (item_of c) ≡ c
choice_back (choice.Number names.Conflicts n) = refl
choice_back (choice.Number names.Callbacks n) = refl
choice_back (choice.Number names.Steps n) = refl
choice_back choice.Check = refl

-- words that were read are items
record Parsed (ws : List (List ℕ)) (f t : Found) : Type 0 where
  items : List Item
  are : AreItems ws items
  adds : add_all items f ≡ Some t

-- one more item before others
parsed_more : (c : Choice) (front rest : List (List ℕ)) (f t : Found) (go : Found → Option Found) → AreWordsOf (item_of c) front → and_then (add_choice c f) go ≡ Some t
    → ((g : Found) → go g ≡ Some t → Parsed rest g t) → Parsed (front ++ rest) f t
parsed_more c front rest f t go words e on = either (add_choice c f) refl e
  where
    either : (o : Option Found) → add_choice c f ≡ o → and_then o go ≡ Some t → Parsed (front ++ rest) f t
    either None is h = absurd (cc)
    either (Some g) is h =
        let p = on g h in
        record { items = item_of c ∷ p.items; are = (front, rest, refl, words, p.are); adds = ap (λ d. and_then (add_choice d f) (add_all p.items)) (choice_back c) ∙ ap (λ o. and_then o (add_all p.items)) is ∙ p.adds }

parse_is : (ws : List (List ℕ)) (f t : Found) → parse ws f ≡ Some t → Parsed ws f t
parse_is [] f t e = record { items = []; are = refl; adds = e }
parse_is (w ∷ []) f t e = either (one_word w) refl e
  where
    either : (o : Option Choice) → one_word w ≡ o → chosen o None f (λ g. Some g) (λ g. None) ≡ Some t → Parsed (w ∷ []) f t
    either None is h = absurd (cc)
    either (Some c) is h = parsed_more c (w ∷ []) [] f t (λ g. Some g) (one_is w c is) h (λ g k. record { items = []; are = refl; adds = k })
parse_is (w ∷ v ∷ ws) f t e = either (one_word w) refl (two_words w v) refl e (parse_is (v ∷ ws)) (parse_is ws)
  where
    either : (o : Option Choice) → one_word w ≡ o → (p : Option Choice) → two_words w v ≡ p → chosen o p f (parse (v ∷ ws)) (parse ws) ≡ Some t
        → ((g t : Found) → parse (v ∷ ws) g ≡ Some t → Parsed (v ∷ ws) g t) → ((g t : Found) → parse ws g ≡ Some t → Parsed ws g t) → Parsed (w ∷ v ∷ ws) f t
    either (Some c) is p is' h on_one on_two = parsed_more c (w ∷ []) (v ∷ ws) f t (parse (v ∷ ws)) (one_is w c is) h (λ g. on_one g t)
    either None is (Some c) is' h on_one on_two = parsed_more c (w ∷ v ∷ []) ws f t (parse ws) (two_is w v c is') h (λ g. on_two g t)
    either None is None is' h on_one on_two = absurd (cc)

-- and items are read
no_digits : (name : Name) → one_word (name_text name) ≡ None
no_digits names.Conflicts = refl
no_digits names.Callbacks = refl
no_digits names.Steps = refl

one_number : (name : Name) (digits : List ℕ) → one_word (name_text name ++ 61 ∷ digits) ≡ numbered name (plain_place max_number digits) ⊎ (one_word (name_text name ++ 61 ∷ digits) ≡ first_of (numbered name (plain_place max_number digits)) None)
one_number names.Conflicts digits = inr (either (numbered names.Conflicts (plain_place max_number digits)))
  where
    either : (o : Option Choice) → first_of o None ≡ first_of o None
    either o = refl
one_number names.Callbacks digits = inr refl
one_number names.Steps digits = inl refl

two_read : (name : Name) (v : List ℕ) → two_words (name_text name) v ≡ numbered name (plain_place max_number v)
two_read names.Conflicts v = refl
two_read names.Callbacks v = refl
two_read names.Steps v = refl

one_read : (name : Name) (digits : List ℕ) (n : ℕ) → plain_place max_number digits ≡ plain.Value n → one_word (name_text name ++ 61 ∷ digits) ≡ Some (choice.Number name n)
one_read name digits n e = ⊎_elim
    (λ (is : one_word (name_text name ++ 61 ∷ digits) ≡ numbered name (plain_place max_number digits)). is ∙ ap (numbered name) e)
    (λ (is : one_word (name_text name ++ 61 ∷ digits) ≡ first_of (numbered name (plain_place max_number digits)) None). is ∙ ap (λ x. first_of (numbered name x) None) e)
    (one_number name digits)

-- what follows the words of an item
abbrev Follows : Choice → List (List ℕ) → List (List ℕ) → Type 0
Follows c front rest = (f : Found) → parse (front ++ rest) f ≡ and_then (add_choice c f) (parse rest)

follows_one : (c : Choice) (w : List ℕ) (rest : List (List ℕ)) → one_word w ≡ Some c → Follows c (w ∷ []) rest
follows_one c w [] e f = ap (λ o. chosen o None f (λ g. Some g) (λ g. None)) e ∙ same (add_choice c f)
  where
    same : (o : Option Found) → and_then o (λ g. Some g) ≡ and_then o (parse [])
    same None = refl
    same (Some g) = refl
follows_one c w (v ∷ rest) e f = ap (λ o. chosen o (two_words w v) f (parse (v ∷ rest)) (parse rest)) e

follows_two : (name : Name) (v : List ℕ) (n : ℕ) (rest : List (List ℕ)) → plain_place max_number v ≡ plain.Value n → Follows (choice.Number name n) (name_text name ∷ v ∷ []) rest
follows_two name v n rest e f =
    ap (λ o. chosen o (two_words (name_text name) v) f (parse (v ∷ rest)) (parse rest)) (no_digits name)
    ∙ ap (λ o. chosen None o f (parse (v ∷ rest)) (parse rest)) (two_read name v ∙ ap (numbered name) e)

follows_number : (name : Name) (n : ℕ) (front rest : List (List ℕ)) → AreNumbered (name_text name) n front → Follows (choice.Number name n) front rest
follows_number name n front rest h = ⊎_elim
    (λ (e : front ≡ name_text name ∷ h.digits ∷ []).
    let P : List (List ℕ) → Type 0 = λ x. Follows (choice.Number name n) x rest in
    subst P (sym e) (follows_two name h.digits n rest h.number))
    (λ (e : front ≡ (name_text name ++ 61 ∷ h.digits) ∷ []).
    let P : List (List ℕ) → Type 0 = λ x. Follows (choice.Number name n) x rest in
    subst P (sym e) (follows_one (choice.Number name n) (name_text name ++ 61 ∷ h.digits) rest (one_read name h.digits n h.number)))
    h.are

follows_item : (i : Item) (front rest : List (List ℕ)) → AreWordsOf i front → Follows (choice_of i) front rest
follows_item (Conflicts n) front rest h = follows_number names.Conflicts n front rest h
follows_item (Callbacks n) front rest h = follows_number names.Callbacks n front rest h
follows_item (Steps n) front rest h = follows_number names.Steps n front rest h
follows_item Check front rest h =
    let P : List (List ℕ) → Type 0 = λ x. Follows choice.Check x rest in
    subst P (sym h) (follows_one choice.Check (codes "--check") rest refl)

and_then_some : (o : Option Found) (go then' : Found → Option Found) (t : Found) → and_then o go ≡ Some t → ((g : Found) → go g ≡ Some t → then' g ≡ Some t) → and_then o then' ≡ Some t
and_then_some None go then' t e h = absurd (cc)
and_then_some (Some g) go then' t e h = h g e

items_parse : (items : List Item) (ws : List (List ℕ)) (f t : Found) → AreItems ws items → add_all items f ≡ Some t → parse ws f ≡ Some t
items_parse [] ws f t are e = ap (λ l. parse l f) are ∙ e
items_parse (i ∷ is) ws f t are e =
    ap (λ l. parse l f) are.2 ∙ follows_item i are.0 are.1 are.3 f
    ∙ and_then_some (add_choice (choice_of i) f) (add_all is) (parse are.1) t e (λ g k. items_parse is are.1 g t are.4 k)

-- whether the name of an item was met
abbrev is_met : Item → Found → Bool
is_met (Conflicts n) f = is_some f.conflicts
is_met (Callbacks n) f = is_some f.callbacks
is_met (Steps n) f = is_some f.steps
is_met Check f = f.check

-- an item is added where its name was not met, and then its name alone is met as well
record IsAdded (i : Item) (f g : Found) : Type 0 where
  fresh : is_met i f ≡ false
  met : is_met i g ≡ true
  others : (j : Item) → name_of i ≢ name_of j → is_met j g ≡ is_met j f
  states : options_by g ≡ with_item i (options_by f)

added_conflicts : (n : ℕ) (f : Found) (o : Option ℕ) → f.conflicts ≡ o → o ≡ None → IsAdded (Conflicts n) f (record f { conflicts = Some n })
added_conflicts n f o e none = record { fresh = ap is_some (e ∙ none); met = refl; others = λ j d. other j d; states = refl }
  where
    other : (j : Item) → name_of (Conflicts n) ≢ name_of j → is_met j (record f { conflicts = Some n }) ≡ is_met j f
    other (Conflicts m) d = absurd (d refl)
    other (Callbacks m) d = refl
    other (Steps m) d = refl
    other Check d = refl

added_callbacks : (n : ℕ) (f : Found) → f.callbacks ≡ None → IsAdded (Callbacks n) f (record f { callbacks = Some n })
added_callbacks n f none = record { fresh = ap is_some none; met = refl; others = λ j d. other j d; states = refl }
  where
    other : (j : Item) → name_of (Callbacks n) ≢ name_of j → is_met j (record f { callbacks = Some n }) ≡ is_met j f
    other (Conflicts m) d = refl
    other (Callbacks m) d = absurd (d refl)
    other (Steps m) d = refl
    other Check d = refl

added_steps : (n : ℕ) (f : Found) → f.steps ≡ None → IsAdded (Steps n) f (record f { steps = Some n })
added_steps n f none = record { fresh = ap is_some none; met = refl; others = λ j d. other j d; states = refl }
  where
    other : (j : Item) → name_of (Steps n) ≢ name_of j → is_met j (record f { steps = Some n }) ≡ is_met j f
    other (Conflicts m) d = refl
    other (Callbacks m) d = refl
    other (Steps m) d = absurd (d refl)
    other Check d = refl

added_check : (f : Found) → f.check ≡ false → IsAdded Check f (record f { check = true })
added_check f none = record { fresh = none; met = refl; others = λ j d. other j d; states = refl }
  where
    other : (j : Item) → name_of Check ≢ name_of j → is_met j (record f { check = true }) ≡ is_met j f
    other (Conflicts m) d = refl
    other (Callbacks m) d = refl
    other (Steps m) d = refl
    other Check d = absurd (d refl)

-- an item is added, or its name was met
abbrev Adding : Item → Found → Type 0
Adding i f = ((g : Found) × (add_choice (choice_of i) f ≡ Some g) × IsAdded i f g) ⊎ ((add_choice (choice_of i) f ≡ None) × (is_met i f ≡ true))

adding : (i : Item) (f : Found) → Adding i f
adding (Conflicts n) f = on f.conflicts refl
  where
    on : (o : Option ℕ) → f.conflicts ≡ o → Adding (Conflicts n) f
    on None e = inl (record f { conflicts = Some n }, ap (add_conflicts f n) e, added_conflicts n f None e refl)
    on (Some m) e = inr (ap (add_conflicts f n) e, ap is_some e)
adding (Callbacks n) f = on f.callbacks refl
  where
    on : (o : Option ℕ) → f.callbacks ≡ o → Adding (Callbacks n) f
    on None e = inl (record f { callbacks = Some n }, ap (add_callbacks f n) e, added_callbacks n f e)
    on (Some m) e = inr (ap (add_callbacks f n) e, ap is_some e)
adding (Steps n) f = on f.steps refl
  where
    on : (o : Option ℕ) → f.steps ≡ o → Adding (Steps n) f
    on None e = inl (record f { steps = Some n }, ap (add_steps f n) e, added_steps n f e)
    on (Some m) e = inr (ap (add_steps f n) e, ap is_some e)
adding Check f = on f.check refl
  where
    on : (b : Bool) → f.check ≡ b → Adding Check f
    on false e = inl (record f { check = true }, ap (add_check f) e, added_check f e)
    on true e = inr (ap (add_check f) e, e)

-- names are told apart by their fourth byte
abbrev fourth : Item → ℕ
fourth (Conflicts n) = 111
fourth (Callbacks n) = 97
fourth (Steps n) = 116
fourth Check = 104

fourth_is : (i : Item) → get_or (name_of i) 3 0 ≡ fourth i
fourth_is (Conflicts n) = refl
fourth_is (Callbacks n) = refl
fourth_is (Steps n) = refl
fourth_is Check = refl

same_fourth : (i j : Item) → name_of i ≡ name_of j → fourth i ≡ fourth j
same_fourth i j e = sym (fourth_is i) ∙ ap (λ l. get_or l 3 0) e ∙ fourth_is j

met_by : (i j : Item) (f : Found) → fourth i ≡ fourth j → is_met i f ≡ is_met j f
met_by (Conflicts n) (Conflicts m) f e = refl
met_by (Conflicts n) (Callbacks m) f e = absurd (omega arith)
met_by (Conflicts n) (Steps m) f e = absurd (omega arith)
met_by (Conflicts n) Check f e = absurd (omega arith)
met_by (Callbacks n) (Conflicts m) f e = absurd (omega arith)
met_by (Callbacks n) (Callbacks m) f e = refl
met_by (Callbacks n) (Steps m) f e = absurd (omega arith)
met_by (Callbacks n) Check f e = absurd (omega arith)
met_by (Steps n) (Conflicts m) f e = absurd (omega arith)
met_by (Steps n) (Callbacks m) f e = absurd (omega arith)
met_by (Steps n) (Steps m) f e = refl
met_by (Steps n) Check f e = absurd (omega arith)
met_by Check (Conflicts m) f e = absurd (omega arith)
met_by Check (Callbacks m) f e = absurd (omega arith)
met_by Check (Steps m) f e = absurd (omega arith)
met_by Check Check f e = refl

same_met : (i j : Item) (f : Found) → name_of i ≡ name_of j → is_met i f ≡ is_met j f
same_met i j f e = met_by i j f (same_fourth i j e)

-- no item of these has a name that was met
abbrev NoneMet : List Item → Found → Type 0
NoneMet [] f = Unit {0}
NoneMet (i ∷ is) f = (is_met i f ≡ false) × NoneMet is f

differ : {b : Bool} → b ≡ true → b ≡ false → ⊥
differ e f = cc

-- names that were not met after one more were not met before, and differ from it
none_before : (i : Item) (is : List Item) (f g : Found) → IsAdded i f g → NoneMet is g → NoneMet is f × NoneNamed i is
none_before i [] f g a h = (tt, tt)
none_before i (j ∷ is) f g a h =
    let not : name_of i ≢ name_of j = λ e. differ (sym (same_met i j g e) ∙ a.met) h.0 in
    let more = none_before i is f g a h.1 in
    ((sym (a.others j not) ∙ h.0, more.0), (not, more.1))

none_after : (i : Item) (is : List Item) (f g : Found) → IsAdded i f g → NoneMet is f → NoneNamed i is → NoneMet is g
none_after i [] f g a h n = tt
none_after i (j ∷ is) f g a h n = (a.others j n.0 ∙ h.0, none_after i is f g a h.1 n.1)

-- items that are added all have names of their own
record AllAdded (items : List Item) (f t : Found) : Type 0 where
  none : NoneMet items f
  once : NamesOnce items
  states : options_by t ≡ stated_over items (options_by f)

all_added : (items : List Item) (f t : Found) → add_all items f ≡ Some t → AllAdded items f t
all_added [] f t e = let same : f ≡ t = cc in record { none = tt; once = tt; states = ap options_by (sym same) }
all_added (i ∷ is) f t e = ⊎_elim
    (λ (x : (g : Found) × (add_choice (choice_of i) f ≡ Some g) × IsAdded i f g).
    let rest = all_added is x.0 t (sym (ap (λ o. and_then o (add_all is)) x.1) ∙ e) in
    let before = none_before i is f x.0 x.2 rest.none in
    record {
      none = (x.2.fresh, before.0);
      once = (before.1, rest.once);
      states = rest.states ∙ ap (stated_over is) x.2.states;
    })
    (λ (x : (add_choice (choice_of i) f ≡ None) × (is_met i f ≡ true)).
    let no : None ≡ Some t = sym (ap (λ o. and_then o (add_all is)) x.0) ∙ e in absurd (cc))
    (adding i f)

-- and items with names of their own are added
adds_all : (items : List Item) (f : Found) → NoneMet items f → NamesOnce items → (t : Found) × (add_all items f ≡ Some t)
adds_all [] f none once = (f, refl)
adds_all (i ∷ is) f none once = ⊎_elim
    (λ (x : (g : Found) × (add_choice (choice_of i) f ≡ Some g) × IsAdded i f g).
    let rest = adds_all is x.0 (none_after i is f x.0 x.2 none.1 once.0) once.1 in
    (rest.0, ap (λ o. and_then o (add_all is)) x.1 ∙ rest.1))
    (λ (x : (add_choice (choice_of i) f ≡ None) × (is_met i f ≡ true)). absurd (differ x.1 none.0))
    (adding i f)

none_met : (items : List Item) → NoneMet items nothing_found
none_met [] = tt
none_met (Conflicts n ∷ is) = (refl, none_met is)
none_met (Callbacks n ∷ is) = (refl, none_met is)
none_met (Steps n ∷ is) = (refl, none_met is)
none_met (Check ∷ is) = (refl, none_met is)

-- words that are read are accepted
pub read_accepts : (ws : List (List ℕ)) (t : Found) → parse ws nothing_found ≡ Some t → Accepts ws (options_by t)
read_accepts ws t e =
    let p = parse_is ws nothing_found t e in
    let a = all_added p.items nothing_found t p.adds in
    record { items = p.items; are = p.are; once = a.once; stated = a.states }

-- and those that are not are not
pub unread_refused : (ws : List (List ℕ)) → parse ws nothing_found ≡ None → AreAccepted ws → ⊥
unread_refused ws e a =
    let items = a.1.items in
    let t = adds_all items nothing_found (none_met items) a.1.once in
    let x : None ≡ Some t.0 = sym e ∙ items_parse items ws nothing_found t.0 a.1.are t.1 in cc

-- a number that is told is in range
number_most : (n : ℕ) (digits : List ℕ) → plain_place max_number digits ≡ plain.Value n → n ≤ max_number
number_most n digits e = let P : PlainWord → Type 0 = λ x. IsAtMost max_number x in let h = subst P e (plain_most max_number digits) in omega (arith, h)

-- the numbers of items are in range
with_range : (i : Item) (front : List (List ℕ)) (o : Options) → AreWordsOf i front → IsInRange o → IsInRange (with_item i o)
with_range (Conflicts n) front o h r = record { conflicts = number_most n h.digits h.number; callbacks = r.callbacks; steps = r.steps }
with_range (Callbacks n) front o h r = record { conflicts = r.conflicts; callbacks = number_most n h.digits h.number; steps = r.steps }
with_range (Steps n) front o h r = record { conflicts = r.conflicts; callbacks = r.callbacks; steps = number_most n h.digits h.number }
with_range Check front o h r = record { conflicts = r.conflicts; callbacks = r.callbacks; steps = r.steps }

items_range : (items : List Item) (ws : List (List ℕ)) (o : Options) → AreItems ws items → IsInRange o → IsInRange (stated_over items o)
items_range [] ws o are r = r
items_range (i ∷ is) ws o are r = items_range is are.1 (with_item i o) are.4 (with_range i are.0 o are.3 r)

pub accepted_range : (ws : List (List ℕ)) (o : Options) → Accepts ws o → IsInRange o
accepted_range ws o a = subst IsInRange (sym a.stated) (items_range a.items ws nothing_stated a.are (record { conflicts = omega arith; callbacks = omega arith; steps = omega arith }))

-- the words of a list from a place on
pub texts_at : {W : Type 0} (text : W → List ℕ) (words : List W) (at : ℕ) (w : W) → at < length words → w ≡ get_or words at w → drop at (map text words) ≡ text w ∷ drop (at + 1) (map text words)
texts_at text [] at w h e = absurd (omega arith)
texts_at text (x ∷ xs) zero w h e = ap (λ y. text y ∷ map text xs) (sym e)
texts_at text (x ∷ xs) (suc k) w h e = rw (add-one (suc k)) (texts_at text xs k w (omega arith) e ∙ rw (add-one k) refl)

pub none_always : {A : Type 0} (r : Option A) (Q : Type 0) → Q → IfNone r Q
none_always None Q q = q
none_always (Some x) Q q = tt

-- an item begins the words from a place on
pub first_one : (ws rest : List (List ℕ)) (w : List ℕ) (c : Choice) → ws ≡ w ∷ rest → one_word w ≡ Some c → IsFirst ws c rest
first_one ws rest w c cut e f = ap (λ l. parse l f) cut ∙ follows_one c w rest e f

pub first_two : (ws rest : List (List ℕ)) (w v : List ℕ) (c : Choice) → ws ≡ w ∷ v ∷ rest → one_word w ≡ None → two_words w v ≡ Some c → IsFirst ws c rest
first_two ws rest w v c cut none e f =
    ap (λ l. parse l f) cut ∙ ap (λ o. chosen o (two_words w v) f (parse (v ∷ rest)) (parse rest)) none ∙ ap (λ o. chosen None o f (parse (v ∷ rest)) (parse rest)) e

pub none_one : (ws : List (List ℕ)) (w : List ℕ) → ws ≡ w ∷ [] → one_word w ≡ None → BeginsNone ws
none_one ws w cut e f = ap (λ l. parse l f) cut ∙ ap (λ o. chosen o None f (λ g. Some g) (λ g. None)) e

pub none_two : (ws rest : List (List ℕ)) (w v : List ℕ) → ws ≡ w ∷ v ∷ rest → one_word w ≡ None → two_words w v ≡ None → BeginsNone ws
none_two ws rest w v cut none e f =
    ap (λ l. parse l f) cut ∙ ap (λ o. chosen o (two_words w v) f (parse (v ∷ rest)) (parse rest)) none ∙ ap (λ o. chosen None o f (parse (v ∷ rest)) (parse rest)) e

-- what follows a name, place by place
pub rest_step : (name word : List ℕ) (at : ℕ) → at < length name → at < length word
    → rest_after (drop at name) (drop at word) ≡ (if get_or word at 0 == get_or name at 0 then rest_after (drop (at + 1) name) (drop (at + 1) word) else None)
rest_step name word at h k = rw (drop_more name at 0 h, drop_more word at 0 k) refl

pub rest_short : (name word : List ℕ) (at : ℕ) → at < length name → length word ≤ at → rest_after (drop at name) (drop at word) ≡ None
rest_short name word at h k = rw (drop_more name at 0 h, drop_all at word k) refl

pub rest_whole : (name word : List ℕ) (at : ℕ) → length name ≤ at → rest_after (drop at name) (drop at word) ≡ Some (drop at word)
rest_whole name word at h = rw (drop_all at name h) refl
