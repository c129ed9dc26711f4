-- Where no step of a parse has a kind of error, the command takes the words. This holds of each
-- simple command whose defaults
-- pass and whose arguments have no rule on one another.
use Rattle.std.proofs.Common.{◌≡◌, ◌&&◌, ◌||◌, ℕ, Bool, cond, true, false, not, zero, suc, refl, ap}
use Rattle.std.proofs.Common.{arith, List, [], ◌∷◌, length, drop, Option, Some, None, is_some}
use Rattle.std.proofs.Common.{codes}
use Rattle.std.specs.Prelude.{◌==◌, encode_utf8, nat_le, nat_lt, slice_get}
use Rattle.std.specs.List.{find, list_all, list_any}
use Rattle.std.specs.Option.{option_map_or}
use Rattle.std.specs.Str.{bytes_eq, chars}
use Rattle.std.proofs.lemmas.Bool.Decides.{nat_tests}
use Rattle.clap.specs.Facts.{explicit_source, parser_of_value, unwrap_or_range}
use Rattle.clap.specs.Lexer.{long_of, short_of}
use Rattle.clap.specs.ValueTests.{accepts}
use Rattle.clap.specs.Walk.{Held, Names, Row, Rule, Step, Text, Waiting, Walk, action_of}
use Rattle.clap.specs.Walk.{answers_to, arg_by_id, arg_by_index, arg_by_long, arg_by_short}
use Rattle.clap.specs.Walk.{attached_value, finished, has_row, is_pending, most_values, next}
use Rattle.clap.specs.Walk.{nothing_held, reacted, settled, subcommand, subcommand_met}
use Rattle.clap.specs.Walk.{takes_several, takes_values, trailing, value, values_or_missing, walk}
use Rattle.clap.specs.Walk.{walk_from, walked, word_met}
use Rattle.clap.specs.Simple.{App, Shape, argument_words, built, entered, is_simple, label_of}
use Rattle.clap.specs.Simple.{names_of}
use Rattle.clap.specs.Kinds.{Kinds, or_else, range_kinds, values_kinds}
use Rattle.clap.specs.Takes.{action_passes, built_takes, bundle_passes, bundle_step_passes}
use Rattle.clap.specs.Takes.{default_passes, entered_passes, flag_word_passes, flags_pass, is_given}
use Rattle.clap.specs.Takes.{is_valid, level_passes, long_passes, option_passes, other_passes}
use Rattle.clap.specs.Takes.{positional_passes, react_passes, set_passes, settle_passes}
use Rattle.clap.specs.Takes.{short_passes, step_passes, takes, turn_passes, use_passes, walk_passes}
use Rattle.clap.specs.Takes.{word_passes}
use Rattle.clap.specs.Faults.{action_fault, built_fault, bundle_fault, bundle_step_fault}
use Rattle.clap.specs.Faults.{check_fault, entered_fault, fault_of, flag_word_fault, flags_fault}
use Rattle.clap.specs.Faults.{has_free_rules, level_fault, long_fault, option_fault, other_fault}
use Rattle.clap.specs.Faults.{positional_fault, react_fault, set_fault, settle_fault, short_fault}
use Rattle.clap.specs.Faults.{step_fault, turn_fault, use_fault, walk_fault, word_fault}
use Rattle.clap.specs.declared.builder.action.ArgAction.{ArgAction}
use Rattle.clap.specs.declared.builder.action.ArgAction.TheVariants as action
use Rattle.clap.specs.declared.builder.value_parser.ValueParser.{ValueParser}
use Rattle.clap.specs.declared.error.kind.ErrorKind.{ErrorKind}
use Rattle.clap.specs.declared.error.kind.ErrorKind.TheVariants as kind
use Rattle.clap.proofs.WalkLemmas.{both}

-- ---- lists of kinds

neither : (a b : Kinds) → or_else a b ≡ [] → (a ≡ []) × (b ≡ [])
neither [] b e = (refl, e)
neither (k ∷ ks) b e = absurd (let bad : k ∷ ks ≡ [] = e in cc)

-- the test that keeps a kind away holds
holds : (b : Bool) (k : ErrorKind) (ks : Kinds) → cond b [] (k ∷ ks) ≡ [] → b ≡ true
holds true k ks e = refl
holds false k ks e = absurd (let bad : k ∷ ks ≡ [] = e in cc)

-- the test that brings a kind fails, and so none comes after it
fails : (b : Bool) (k : ErrorKind) (ks more : Kinds)
    → cond b (k ∷ ks) more ≡ []
    → (b ≡ false) × (more ≡ [])
fails true k ks more e = absurd (let bad : k ∷ ks ≡ [] = e in cc)
fails false k ks more e = (refl, e)

-- past the test, or where the rest brings no kind
or_past : (b t : Bool) (more : Kinds)
    → (more ≡ [] → t ≡ true)
    → cond b [] more ≡ []
    → (b || t) ≡ true
or_past true t more f e = refl
or_past false t more f e = f e

yes : (a b : Bool) → a ≡ true → b ≡ true → (a && b) ≡ true
yes a b x y = rw (x, y) refl

unless : (a b : Bool) → (a && not b) ≡ false → (not a || b) ≡ true
unless true true e = refl
unless true false e = absurd (let bad : true ≡ false = e in cc)
unless false b e = refl

-- ---- one use of an argument

values_free : (ignore_case : Bool) (p : ValueParser) (vs : List Text)
    → values_kinds ignore_case p vs ≡ []
    → list_all (accepts ignore_case p) vs ≡ true
values_free ignore_case p [] e = refl
values_free ignore_case p (v ∷ vs) e =
    let parts = neither _ _ e in
    yes _ _ (holds (accepts ignore_case p v) _ _ parts.0) (values_free ignore_case p vs parts.1)

range_free : (least most n : ℕ)
    → range_kinds least most n ≡ []
    → (nat_le least n ≡ true) × (nat_le n most ≡ true)
range_free least most n e = go (least == most) refl (fails (nat_lt 0 least && n == 0) _ _ _ e).1
  where
    go : (b : Bool)
        → (least == most) ≡ b
        → cond b (cond (least == n) [] (kind.WrongNumberOfValues ∷ []))
        (cond (nat_lt n least) (kind.TooFewValues ∷ [])
        (cond (nat_lt most n) (kind.TooManyValues ∷ []) [])) ≡ []
        → (nat_le least n ≡ true) × (nat_le n most ≡ true)
    go true same e =
        let at : (least == n) ≡ true = holds _ _ _ e in
        (grind (arith, nat_tests), grind (arith, nat_tests))
    go false differ e =
        let p = fails (nat_lt n least) _ _ _ e in
        let low : nat_lt n least ≡ false = p.0 in
        let high : nat_lt most n ≡ false = (fails (nat_lt most n) _ _ [] p.1).0 in
        (grind (arith, nat_tests), grind (arith, nat_tests))

set_free : (again : Bool) (a : Rule) (values : List Text) (rows : List Row)
    → set_fault again a values rows ≡ []
    → set_passes again a values rows ≡ true
set_free again a values rows e =
    let parts = neither _ _ e in
    yes _ _ (unless (has_row a.id rows) again
    (fails (has_row a.id rows && not again) _ _ [] parts.0).0)
    (values_free a.ignore_case (parser_of_value a.parser) values parts.1)

action_free : (x : ArgAction) (again : Bool) (a : Rule) (values : List Text) (rows : List Row)
    → action_fault x again a values rows ≡ []
    → action_passes x again a values rows ≡ true
action_free action.Set again a values rows e = set_free again a values rows e
action_free action.SetTrue again a values rows e = set_free again a values rows e
action_free action.SetFalse again a values rows e = set_free again a values rows e
action_free action.Append again a values rows e =
    values_free a.ignore_case (parser_of_value a.parser) values e
action_free action.Count again a [] rows e = holds _ _ _ e
action_free action.Count again a (v ∷ vs) rows e =
    values_free a.ignore_case (parser_of_value a.parser) (v ∷ vs) e
action_free action.Help again a values rows e =
    absurd (let bad : kind.DisplayHelp ∷ [] ≡ [] = e in cc)
action_free action.HelpShort again a values rows e =
    absurd (let bad : kind.DisplayHelp ∷ [] ≡ [] = e in cc)
action_free action.HelpLong again a values rows e =
    absurd (let bad : kind.DisplayHelp ∷ [] ≡ [] = e in cc)
action_free action.Version again a values rows e =
    absurd (let bad : kind.DisplayVersion ∷ [] ≡ [] = e in cc)

use_free : (again : Bool) (a : Rule) (values : List Text) (rows : List Row)
    → use_fault again a values rows ≡ []
    → use_passes again a values rows ≡ true
use_free again a values rows e =
    let parts = neither _ _ e in
    let range = range_free (unwrap_or_range a.range).start_inclusive (most_values a) (length values)
    parts.0 in
    yes _ _ range.0 (yes _ _ range.1 (action_free (action_of a) again a (values_or_missing a values)
    rows parts.1))

-- ---- the walk

settle_free : (c : List Rule) (again : Bool) (h : Held)
    → settle_fault c again h ≡ []
    → settle_passes c again h ≡ true
settle_free c again h e = go h.pending e
  where
    at : (values : List Text) (o : Option Rule)
        → option_map_or (λ a. use_fault again a values h.rows) o [] ≡ []
        → option_map_or (λ a. use_passes again a values h.rows) o true ≡ true
    at values None e = refl
    at values (Some a) e = use_free again a values h.rows e

    go : (o : Option (Text × List Text))
        → option_map_or (λ p. option_map_or (λ a. use_fault again a p.1 h.rows) (arg_by_id c p.0)
        []) o [] ≡ []
        → option_map_or (λ p. option_map_or (λ a. use_passes again a p.1 h.rows) (arg_by_id c p.0)
        true) o true ≡ true
    go None e = refl
    go (Some p) e = at p.1 (arg_by_id c p.0) e

react_free : (c : List Rule) (again : Bool) (a : Rule) (values : List Text) (h : Held)
    → react_fault c again a values h ≡ []
    → react_passes c again a values h ≡ true
react_free c again a values h e =
    let parts = neither _ _ e in
    yes _ _ (settle_free c again h parts.0) (use_free again a values (settled c h).rows parts.1)

option_free : (c : List Rule) (again : Bool) (a : Rule) (v : Option Text) (h : Held)
    → option_fault c again a v h ≡ []
    → option_passes c again a v h ≡ true
option_free c again a (Some v) h e = react_free c again a (v ∷ []) h e
option_free c again a None h e = settle_free c again h e

long_free : (c : List Rule) (again : Bool) (o : Option Rule) (v : Option Text) (h : Held)
    → long_fault c again o v h ≡ []
    → long_passes c again o v h ≡ true
long_free c again None v h e = absurd (let bad : kind.UnknownArgument ∷ [] ≡ [] = e in cc)
long_free c again (Some a) v h e = go (takes_values a) e
  where
    go : (b : Bool)
        → cond b (option_fault c again a v h)
        (cond (is_some v) (kind.TooManyValues ∷ []) (react_fault c again a [] h)) ≡ []
        → cond b (option_passes c again a v h) (not (is_some v) && react_passes c again a [] h)
        ≡ true
    go true e = option_free c again a v h e
    go false e =
        let p = fails (is_some v) _ _ _ e in
        yes _ _ (ap not p.0) (react_free c again a [] h p.1)

short_free : (c : List Rule) (again : Bool) (o : Option Rule) (rest : Text) (h : Held)
    (next_fault : Held → Kinds) (next_passes : Held → Bool)
    → ((k : Held) → next_fault k ≡ [] → next_passes k ≡ true)
    → short_fault c again o rest h next_fault ≡ []
    → short_passes c again o rest h next_passes ≡ true
short_free c again None rest h next_fault next_passes f e =
    absurd (let bad : kind.UnknownArgument ∷ [] ≡ [] = e in cc)
short_free c again (Some a) rest h next_fault next_passes f e = go (takes_values a) e
  where
    go : (b : Bool)
        → cond b (option_fault c again a (attached_value rest) h)
        (or_else (react_fault c again a [] h) (next_fault (reacted c a [] h))) ≡ []
        → cond b (option_passes c again a (attached_value rest) h)
        (react_passes c again a [] h && next_passes (reacted c a [] h)) ≡ true
    go true e = option_free c again a (attached_value rest) h e
    go false e =
        let parts = neither _ _ e in
        yes _ _ (react_free c again a [] h parts.0) (f (reacted c a [] h) parts.1)

bundle_step_free : (c : List Rule) (again : Bool) (o : Option ℕ) (flags : Text) (skip : ℕ)
    (h : Held) (next_fault : Text → ℕ → Held → Kinds) (next_passes : Text → ℕ → Held → Bool)
    → ((t : Text) (n : ℕ) (k : Held) → next_fault t n k ≡ [] → next_passes t n k ≡ true)
    → bundle_step_fault c again o flags skip h next_fault ≡ []
    → bundle_step_passes c again o flags skip h next_passes ≡ true
bundle_step_free c again None flags skip h next_fault next_passes f e = refl
bundle_step_free c again (Some x) flags zero h next_fault next_passes f e =
    let rest = drop (length (encode_utf8 x)) flags in
    short_free c again (arg_by_short c x) rest h (next_fault rest 0) (next_passes rest 0) (f rest 0)
    e
bundle_step_free c again (Some x) flags (suc skip) h next_fault next_passes f e =
    f (drop (length (encode_utf8 x)) flags) skip h e

flags_free : (c : List Rule) (again : Bool) (k : ℕ) (flags : Text) (skip : ℕ) (h : Held)
    → flags_fault c again k flags skip h ≡ []
    → flags_pass c again k flags skip h ≡ true
unfolding flags_fault flags_pass
flags_free c again zero flags skip h e = refl
flags_free c again (suc k) flags skip h e =
    bundle_step_free c again (slice_get (chars flags) 0) flags skip h (flags_fault c again k)
    (flags_pass c again k) (flags_free c again k) e

flag_word_free : (c : List Rule) (again : Bool) (o : Option (Text × Option Text)) (word : Text)
    (h : Held)
    → flag_word_fault c again o word h ≡ []
    → flag_word_passes c again o word h ≡ true
flag_word_free c again (Some p) word h e = long_free c again (arg_by_long c p.0) p.1 h e
flag_word_free c again None word h e = go (short_of word) e
  where
    go : (o : Option Text)
        → option_map_or (λ flags. bundle_fault c again flags h) o [] ≡ []
        → option_map_or (λ flags. bundle_passes c again flags h) o true ≡ true
    go None e = refl
    go (Some flags) e = flags_free c again (length flags) flags h.skip (record h { skip = 0 }) e

other_free : (s : Shape) (o : Option Text) (word : Text) (h : Held)
    → other_fault s o word h ≡ []
    → other_passes s o word h ≡ true
other_free s (Some name) word h e =
    unless (bytes_eq name (codes "help")) s.disable_help_subcommand
    (fails (bytes_eq name (codes "help") && not s.disable_help_subcommand) _ _ [] e).0
other_free s None word h e =
    or_past (bytes_eq word (45 ∷ 45 ∷ [])) _ _
    (flag_word_free s.rules s.args_override_self (long_of word) word h) e

word_free : (s : Shape) (names : Names) (is_trailing : Bool) (waiting : Waiting) (word : Text)
    (h : Held)
    → word_fault s names is_trailing waiting word h ≡ []
    → word_passes s names is_trailing waiting word h ≡ true
word_free s names is_trailing waiting word h e =
    or_past is_trailing _ _ (other_free s (subcommand_met names waiting word) word h) e

positional_free : (c : List Rule) (again : Bool) (a : Rule) (h : Held)
    → positional_fault c again a h ≡ []
    → positional_passes c again a h ≡ true
positional_free c again a h e = or_past (is_pending a h.pending && takes_several a) _ _
    (settle_free c again h) e

step_free : (s : Shape) (position : ℕ) (h : Held) (step : Step)
    → step_fault s position h step ≡ []
    → step_passes s position h step ≡ true
step_free s position h (next waiting) e = refl
step_free s position h (trailing n) e = refl
step_free s position h (subcommand name) e = refl
step_free s position h value e = go (arg_by_index s.rules position) e
  where
    stray : (b : Bool)
        → cond b (kind.UnknownArgument ∷ []) (kind.UnknownArgument ∷ kind.InvalidSubcommand ∷ [])
        ≡ []
        → ⊥
    stray true e = let bad : kind.UnknownArgument ∷ [] ≡ [] = e in cc
    stray false e = let bad : kind.UnknownArgument ∷ kind.InvalidSubcommand ∷ [] ≡ [] = e in cc

    go : (o : Option Rule)
        → option_map_or (λ a. positional_fault s.rules s.args_override_self a h) o
        (cond s.is_leaf (kind.UnknownArgument ∷ [])
        (kind.UnknownArgument ∷ kind.InvalidSubcommand ∷ [])) ≡ []
        → option_map_or (λ a. positional_passes s.rules s.args_override_self a h) o false ≡ true
    go None e = absurd (stray s.is_leaf e)
    go (Some a) e = positional_free s.rules s.args_override_self a h e

turn_free : (s : Shape) (names : Names) (w : Walk) (word : Text)
    → turn_fault s names w word ≡ []
    → turn_passes s names w word ≡ true
turn_free s names w word e =
    let met = word_met s.rules names w.is_trailing w.waiting w.position word w.held in
    or_past (is_some w.stopped) _ _ (λ h.
    let parts = neither (word_fault s names w.is_trailing w.waiting word w.held)
    (step_fault s w.position met.0 met.1) h in
    yes _ _ (word_free s names w.is_trailing w.waiting word w.held parts.0)
    (step_free s w.position met.0 met.1 parts.1)) e

walk_free : (s : Shape) (names : Names) (w : Walk) (words : List Text)
    → walk_fault s names w words ≡ []
    → walk_passes s names w words ≡ true
unfolding walk_fault walk_passes
walk_free s names w [] e = refl
walk_free s names w (word ∷ rest) e =
    let parts = neither (turn_fault s names w word) _ e in
    yes _ _ (turn_free s names w word parts.0)
    (walk_free s names (walked s.rules names w word) rest parts.1)

-- ---- after the walk

help_free : (has need any : Bool)
    → (not has && (need && not any)) ≡ false
    → (not need || (has || any)) ≡ true
help_free true true any e = refl
help_free true false any e = refl
help_free false true true e = refl
help_free false true false e = absurd (let bad : true ≡ false = e in cc)
help_free false false any e = refl

subcommand_free : (has need : Bool) → (not has && need) ≡ false → (not need || has) ≡ true
subcommand_free true true e = refl
subcommand_free true false e = refl
subcommand_free false true e = absurd (let bad : true ≡ false = e in cc)
subcommand_free false false e = refl

each_given : (given : Rule → Bool) (rules : List Rule)
    → list_any (λ a. a.required && not (given a)) rules ≡ false
    → list_all (λ a. not a.required || given a) rules ≡ true
each_given given [] e = refl
each_given given (a ∷ rest) e =
    let parts = apart (a.required && not (given a)) _ e in
    yes _ _ (unless a.required (given a) parts.0) (each_given given rest parts.1)
  where
    apart : (x y : Bool) → (x || y) ≡ false → (x ≡ false) × (y ≡ false)
    apart true y e = absurd (let bad : true ≡ false = e in cc)
    apart false y e = (refl, e)

required_free : (lifted : Bool) (given : Rule → Bool) (rules : List Rule)
    → (not lifted && list_any (λ a. a.required && not (given a)) rules) ≡ false
    → (lifted || list_all (λ a. not a.required || given a) rules) ≡ true
required_free true given rules e = refl
required_free false given rules e = each_given given rules e

check_free : (s : Shape) (rows : List Row) (has : Bool)
    → has_free_rules s ≡ true
    → check_fault s rows has ≡ []
    → is_valid s rows has ≡ true
check_free s rows has free e =
    let p = fails (not has && (s.arg_required_else_help && not
    (list_any (λ (r : Row). explicit_source r.source) rows))) _ _ _ e in
    let q = fails (not has && s.subcommand_required) _ _ _ p.1 in
    let r = fails (not (s.subcommand_negates_reqs && has) && list_any
    (λ (a : Rule). a.required && not (is_given a.id rows)) s.rules) _ _ [] q.1 in
    yes _ _ (help_free has s.arg_required_else_help _ p.0)
    (yes _ _ (subcommand_free has s.subcommand_required q.0)
    (yes _ _ free (required_free (s.subcommand_negates_reqs && has) (λ a. is_given a.id rows)
    s.rules r.0)))

-- the defaults pass, and no argument has a rule on another
abbrev pub is_sound : Shape → Bool
is_sound s = list_all default_passes s.rules && has_free_rules s

level_free : (s : Shape) (names : Names) (h : Held) (words : List Text) (has : Bool) (below : Kinds)
    → is_sound s ≡ true
    → level_fault s names h words has below ≡ []
    → (below ≡ []) × (level_passes s names h words has ≡ true)
level_free s names h words has below sound e =
    let end = (walk s.rules names h words).held in
    let facts = both (list_all default_passes s.rules) _ sound in
    let p = neither (walk_fault s names (walk_from h) words) _ e in
    let q = neither below _ p.1 in
    let r = neither (settle_fault s.rules s.args_override_self end) _ q.1 in
    let t = neither _ (check_fault s (finished s.rules end) has) r.1 in (
      q.0,
      yes _ _ (walk_free s names (walk_from h) words p.0)
          (yes _ _ (settle_free s.rules s.args_override_self end r.0)
          (yes _ _ facts.0 (check_free s (finished s.rules end) has facts.1 t.1))),
    )

found_sound : (p : Shape → Bool) (subs : List Shape)
    → list_all is_sound subs ≡ true
    → option_map_or is_sound (find p subs) true ≡ true
found_sound p [] e = refl
found_sound p (s ∷ rest) e = go (p s) (found_sound p rest (both (is_sound s) _ e).1)
  where
    go : (b : Bool)
        → option_map_or is_sound (find p rest) true ≡ true
        → option_map_or is_sound (cond b (Some s) (find p rest)) true ≡ true
    go true later = (both (is_sound s) _ e).0
    go false later = later

entered_free : (a : App) (stop : Option (Text × List Text))
    → list_all is_sound a.subs ≡ true
    → entered_fault a stop ≡ []
    → entered_passes a stop ≡ true
entered_free a None sound e = refl
entered_free a (Some p) sound e = go (find (λ s. answers_to p.0 (label_of s)) a.subs)
    (found_sound (λ s. answers_to p.0 (label_of s)) a.subs sound) e
  where
    go : (o : Option Shape)
        → option_map_or is_sound o true ≡ true
        → option_map_or (λ s. level_fault s [] nothing_held p.1 false []) o [] ≡ []
        → option_map_or (λ s. level_passes s [] nothing_held p.1 false) o true ≡ true
    go None sound e = refl
    go (Some s) sound e = (level_free s [] nothing_held p.1 false [] sound e).1

built_free : (a : App) (h : Held) (words : List Text)
    → is_sound a.top ≡ true
    → list_all is_sound a.subs ≡ true
    → built_fault a h words ≡ []
    → built_takes a h words ≡ true
built_free a h words top subs e =
    let stop = (walk a.top.rules (names_of a) h words).stopped in
    let level = level_free a.top (names_of a) h words (is_some (entered a stop))
    (entered_fault a stop) top e in
    yes _ _ (entered_free a stop subs level.0) level.1

-- the words bring no kind of error, so they are taken
pub takes_faultless : (a : App) (words : List Text)
    → is_simple a ≡ true
    → is_sound (built a).top ≡ true
    → list_all is_sound (built a).subs ≡ true
    → fault_of a words ≡ [] → takes a words ≡ true
takes_faultless a words simple top subs e =
    yes _ _ simple (built_free (built a) nothing_held (argument_words a words) top subs e)
