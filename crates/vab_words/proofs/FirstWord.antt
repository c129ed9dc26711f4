-- Words are taken only where the first is the name of a verb.
use Rattle.std.proofs.Common.{◌≡◌, ◌∙◌, ◌&&◌, ◌||◌, ℕ, Bool, cond, true, false, refl, sym, ap}
use Rattle.std.proofs.Common.{subst, List, [], ◌∷◌, ◌++◌, length, map, Option, Some, None}
use Rattle.std.proofs.Common.{option_map, codes}
use Rattle.std.specs.Prelude.{IfSome, option_and_then, slice_get}
use Rattle.std.specs.List.{fold, list_any}
use Rattle.std.specs.Option.{option_map_or}
use Rattle.std.specs.Str.{bytes_eq, chars}
use Rattle.std.proofs.lemmas.Slice.Eq.{bytes_eq-Decides}
use Rattle.clap.specs.Lexer.{long_of, short_of}
use Rattle.clap.specs.Walk.{Held, Names, Row, Rule, Text, Walk, after_flag, bundle_met, bundle_step}
use Rattle.clap.specs.Walk.{idle, long_or_other, first_of, nothing_held, plain, short_or_plain}
use Rattle.clap.specs.Walk.{subcommand_met, walk_from, walked}
use Rattle.clap.specs.Simple.{App, Shape, built, entered, is_simple, names_of}
use Rattle.clap.specs.Takes.{built_takes, bundle_passes, bundle_step_passes, flag_word_passes}
use Rattle.clap.specs.Takes.{flags_pass, step_passes, turn_passes, walk_passes}
use Rattle.clap.proofs.OnLiterals.{clap_on_literals}
use Rattle.vab_words.specs.Command.{found_in, is_taken, vab_app}
use Rattle.vab_words.specs.Values.{blocks_of, limit_of, metadata_max_of, slot_of, seed_of, scale_of}
use Rattle.vab_words.specs.Values.{turns_of}
use Rattle.vab_words.specs.Verbs.{Activate, Adopt, Demo, Digest, Make, Meaning, Merge, Print}
use Rattle.vab_words.specs.Verbs.{Serve, demo_of, is_set, serve_of}
use Rattle.vab_words.specs.Verbs.{make_of, verb_in}
use Rattle.vab_words.specs.Verbs.{verb_of}
use Rattle.vab_words.specs.Spelled.{is_verb_name, name_of, verb_names}
use Rattle.vab_words.proofs.Asked.{untaken}

and_false : (b : Bool) → (b && false) ≡ false
and_false true = refl
and_false false = refl

-- the command's own words don't pass, so they aren't taken
not_passed : (a : App) (h : Held) (words : List Text)
    → walk_passes a.top (names_of a) (walk_from h) words ≡ false
    → built_takes a h words ≡ false
not_passed a h words e = rw e (and_false _)

not_taken : (words : List Text)
    → walk_passes (built vab_app).top (names_of (built vab_app)) (walk_from nothing_held) words
    ≡ false
    → is_taken words ≡ false
unfolding is_taken vab_app
not_taken words e = rw (not_passed (built vab_app) nothing_held words e)
    (and_false (is_simple vab_app))

no_subcommand : (word : Text) (names : List Text)
    → list_any (λ name. bytes_eq name word) names ≡ false
    → subcommand_met (map (λ name. (name, [])) names) idle word ≡ None
no_subcommand word [] e = refl
no_subcommand word (name ∷ rest) e = go (bytes_eq name word) refl e (no_subcommand word rest)
  where
    go : (b : Bool)
        → bytes_eq name word ≡ b
        → (b || list_any (λ other. bytes_eq other word) rest) ≡ false
        → (list_any (λ other. bytes_eq other word) rest ≡ false
        → subcommand_met (map (λ other. (other, [])) rest) idle word ≡ None)
        → subcommand_met (map (λ other. (other, [])) (name ∷ rest)) idle word ≡ None
    go true is e later = absurd (let bad : true ≡ false = e in cc)
    go false is e later = rw is (later e)

module _ (s : Shape) (names : Names) (word : Text) (h : Held) (again : Bool) where
  abbrev bare : Shape
  bare = record s { rules = [] }

  bundle_stray : (flags : Text) → (bundle_passes [] again flags (record h { skip = 0 })
      && (let met = short_or_plain [] idle word (Some flags) (record h { skip = 0 }) in
      step_passes bare 1 met.0 met.1)) ≡ false
  unfolding flags_pass bundle_met
  bundle_stray [] = refl
  bundle_stray (x ∷ xs) = go (slice_get (chars (x ∷ xs)) 0)
    where
      go : (o : Option ℕ)
          → (bundle_step_passes [] again o (x ∷ xs) 0 (record h { skip = 0 })
          (flags_pass [] again (length xs))
          && (let end = bundle_step [] o (x ∷ xs) 0 plain (record h { skip = 0 })
          (bundle_met [] (length xs)) in
          let met = after_flag [] idle word end.0 end.1 in step_passes bare 1 met.0 met.1)) ≡ false
      go None = refl
      go (Some y) = refl

  flag_stray : (o : Option (Text × Option Text))
      → (flag_word_passes [] again o word (record h { skip = 0 })
      && (let met = long_or_other [] idle word o (record h { skip = 0 }) in
      step_passes bare 1 met.0 met.1)) ≡ false
  flag_stray (Some p) = refl
  flag_stray None = go (short_of word)
    where
      go : (o : Option Text)
          → (option_map_or (λ flags. bundle_passes [] again flags (record h { skip = 0 })) o true
          && (let met = short_or_plain [] idle word o (record h { skip = 0 }) in
          step_passes bare 1 met.0 met.1)) ≡ false
      go None = refl
      go (Some flags) = bundle_stray flags

stray : (s : Shape) (names : Names) (word : Text)
    → subcommand_met names idle word ≡ None
    → bytes_eq word (45 ∷ 45 ∷ []) ≡ false
    → turn_passes (record s { rules = [] }) names (walk_from nothing_held) word ≡ false
stray s names word none dashes = rw (none, dashes)
    (flag_stray s names word nothing_held s.args_override_self (long_of word))

stray_first : (s : Shape) (names : Names) (word : Text) (rest : List Text)
    → subcommand_met names idle word ≡ None
    → bytes_eq word (45 ∷ 45 ∷ []) ≡ false
    → walk_passes (record s { rules = [] }) names (walk_from nothing_held) (word ∷ rest) ≡ false
unfolding walk_passes
stray_first s names word rest none dashes = rw (stray s names word none dashes) refl

-- behind `--` no verb comes
behind_dashes : (rest : List Text) → verb_of ((45 ∷ 45 ∷ []) ∷ rest) ≡ None
unfolding clap_on_literals vab_app is_taken found_in verb_of verb_in
behind_dashes [] = refl
behind_dashes (x ∷ xs) = untaken ((45 ∷ 45 ∷ []) ∷ x ∷ xs)
    (not_taken ((45 ∷ 45 ∷ []) ∷ x ∷ xs) refl)

names_are : names_of (built vab_app) ≡ map (λ name. (name, [])) verb_names
unfolding vab_app
names_are = refl

pub other : (word : Text) (rest : List Text)
    → is_verb_name word ≡ false
    → verb_of (word ∷ rest) ≡ None
unfolding vab_app
other word rest e = go (bytes_eq word (45 ∷ 45 ∷ [])) refl
  where
    go : (b : Bool) → bytes_eq word (45 ∷ 45 ∷ []) ≡ b → verb_of (word ∷ rest) ≡ None
    go true dashes = subst (λ (w : Text). verb_of (w ∷ rest) ≡ None)
        (sym ((bytes_eq-Decides word (45 ∷ 45 ∷ [])).0 dashes)) (behind_dashes rest)
    go false dashes = untaken (word ∷ rest) (not_taken (word ∷ rest)
        (stray_first (built vab_app).top (names_of (built vab_app)) word rest
        (no_subcommand word verb_names e) dashes))

-- ---- the verb is the one that the first word names

stays_stopped : (c : List Rule) (names : Names) (w : Walk) (name : Text) (before rest : List Text)
    → (behind : List Text) × ((fold (walked c names) (record w { stopped = Some (name, before) })
    rest).stopped ≡ Some (name, behind))
unfolding walked
stays_stopped c names w name before [] = (before, refl)
stays_stopped c names w name before (x ∷ xs) = stays_stopped c names w name (before ++ x ∷ []) xs

abbrev start : Walk
start = walk_from nothing_held

-- the name of a verb stops the walk, and enters the verb
abbrev Enters : Text → Type 0
Enters name = (walked (built vab_app).top.rules (names_of (built vab_app)) start name
    ≡ record start { stopped = Some (name, []) })
    × ((behind : List Text) → (rows : List Row)
    × (entered (built vab_app) (Some (name, behind)) ≡ Some (name, rows)))

found_named : (name : Text) (rest : List Text)
    → Enters name
    → (rows : List Row) × (found_in (name ∷ rest) ≡ Some (name, rows))
unfolding found_in vab_app
found_named name rest enters =
    let stop = stays_stopped (built vab_app).top.rules (names_of (built vab_app)) start name []
    rest in
    let at = enters.1 stop.0 in (
      at.0,
      ap (λ (w : Walk). entered (built vab_app)
          (fold (walked (built vab_app).top.rules (names_of (built vab_app))) w rest).stopped)
          enters.0
          ∙ (ap (entered (built vab_app)) stop.1 ∙ at.1),
    )

abbrev IsNamed : Text → Option Meaning → Type 0
IsNamed name o = IfSome o (λ m. name ≡ name_of m)

named_verb : (name : Text) (rest : List Text)
    → Enters name
    → ((rows : List Row) → IsNamed name (verb_in name rows))
    → IsNamed name (verb_of (name ∷ rest))
unfolding verb_of
named_verb name rest enters named =
    let found = found_named name rest enters in
    rw found.1 (go (is_taken (name ∷ rest)) (verb_in name found.0) (named found.0))
  where
    go : (b : Bool) (o : Option Meaning) → IsNamed name o → IsNamed name (cond b o None)
    go true o h = h
    go false o h = tt

enters_make : Enters (codes "make")
unfolding clap_on_literals vab_app
enters_make = (refl, λ behind. (_, refl))

enters_adopt : Enters (codes "adopt")
unfolding clap_on_literals vab_app
enters_adopt = (refl, λ behind. (_, refl))

enters_serve : Enters (codes "serve")
unfolding clap_on_literals vab_app
enters_serve = (refl, λ behind. (_, refl))

enters_install : Enters (codes "install")
unfolding clap_on_literals vab_app
enters_install = (refl, λ behind. (_, refl))

enters_boot : Enters (codes "boot")
unfolding clap_on_literals vab_app
enters_boot = (refl, λ behind. (_, refl))

enters_mark : Enters (codes "mark")
unfolding clap_on_literals vab_app
enters_mark = (refl, λ behind. (_, refl))

enters_begin_merge : Enters (codes "begin-merge")
unfolding clap_on_literals vab_app
enters_begin_merge = (refl, λ behind. (_, refl))

enters_merge : Enters (codes "merge")
unfolding clap_on_literals vab_app
enters_merge = (refl, λ behind. (_, refl))

enters_cancel : Enters (codes "cancel")
unfolding clap_on_literals vab_app
enters_cancel = (refl, λ behind. (_, refl))

enters_activate : Enters (codes "activate")
unfolding clap_on_literals vab_app
enters_activate = (refl, λ behind. (_, refl))

enters_print : Enters (codes "print")
unfolding clap_on_literals vab_app
enters_print = (refl, λ behind. (_, refl))

enters_digest : Enters (codes "digest")
unfolding clap_on_literals vab_app
enters_digest = (refl, λ behind. (_, refl))

enters_status : Enters (codes "status")
unfolding clap_on_literals vab_app
enters_status = (refl, λ behind. (_, refl))

enters_demo : Enters (codes "demo")
unfolding clap_on_literals vab_app
enters_demo = (refl, λ behind. (_, refl))

mapped : {X : Type 0} (name : Text) (f : X → Meaning)
    → ((x : X) → name ≡ name_of (f x))
    → (o : Option X)
    → IsNamed name (option_map f o)
mapped name f is None = tt
mapped name f is (Some x) = is x

make_named : (a b : Option Text) → IsNamed (codes "make") (make_of a b)
unfolding make_of
make_named a b = go (limit_of a) (metadata_max_of b)
  where
    go : (x y : Option ℕ)
        → IsNamed (codes "make") (option_and_then (λ bytes. option_map (Make bytes) y) x)
    go None y = tt
    go (Some bytes) None = tt
    go (Some bytes) (Some most) = refl

make_in : (rows : List Row) → IsNamed (codes "make") (verb_in (codes "make") rows)
unfolding verb_in
make_in rows = make_named (first_of (codes "limit") rows) (first_of (codes "metadata-max") rows)

adopt_in : (rows : List Row) → IsNamed (codes "adopt") (verb_in (codes "adopt") rows)
unfolding verb_in
adopt_in rows = mapped (codes "adopt") Adopt (λ _. refl)
    (option_and_then slot_of (first_of (codes "slot") rows))

serve_named : (a b : Option Text) → IsNamed (codes "serve") (serve_of a b)
unfolding serve_of
serve_named a b = mapped (codes "serve") (Serve (is_set a)) (λ _. refl) (turns_of b)

serve_in : (rows : List Row) → IsNamed (codes "serve") (verb_in (codes "serve") rows)
unfolding verb_in
serve_in rows = serve_named (first_of (codes "fresh") rows) (first_of (codes "turns") rows)

install_in : (rows : List Row) → IsNamed (codes "install") (verb_in (codes "install") rows)
unfolding verb_in
install_in rows = refl

boot_in : (rows : List Row) → IsNamed (codes "boot") (verb_in (codes "boot") rows)
unfolding verb_in
boot_in rows = refl

mark_in : (rows : List Row) → IsNamed (codes "mark") (verb_in (codes "mark") rows)
unfolding verb_in
mark_in rows = refl

begin_merge_in : (rows : List Row) → IsNamed (codes "begin-merge")
    (verb_in (codes "begin-merge") rows)
unfolding verb_in
begin_merge_in rows = refl

merge_in : (rows : List Row) → IsNamed (codes "merge") (verb_in (codes "merge") rows)
unfolding verb_in
merge_in rows = mapped (codes "merge") Merge (λ _. refl)
    (option_and_then blocks_of (first_of (codes "blocks") rows))

cancel_in : (rows : List Row) → IsNamed (codes "cancel") (verb_in (codes "cancel") rows)
unfolding verb_in
cancel_in rows = refl

activate_in : (rows : List Row) → IsNamed (codes "activate") (verb_in (codes "activate") rows)
unfolding verb_in
activate_in rows = mapped (codes "activate") Activate (λ _. refl)
    (option_and_then slot_of (first_of (codes "slot") rows))

print_in : (rows : List Row) → IsNamed (codes "print") (verb_in (codes "print") rows)
unfolding verb_in
print_in rows = mapped (codes "print") Print (λ _. refl) (first_of (codes "name") rows)

digest_in : (rows : List Row) → IsNamed (codes "digest") (verb_in (codes "digest") rows)
unfolding verb_in
digest_in rows = mapped (codes "digest") Digest (λ _. refl) (first_of (codes "name") rows)

status_in : (rows : List Row) → IsNamed (codes "status") (verb_in (codes "status") rows)
unfolding verb_in
status_in rows = refl

demo_named : (a b : Option Text)
    → IsNamed (codes "demo") (option_and_then (λ seed. demo_of seed b) a)
unfolding demo_of
demo_named None b = tt
demo_named (Some seed) b = go (seed_of seed) (scale_of b)
  where
    go : (x y : Option ℕ)
        → IsNamed (codes "demo") (option_and_then (λ number. option_map (Demo number) y) x)
    go None y = tt
    go (Some number) None = tt
    go (Some number) (Some scale) = refl

demo_in : (rows : List Row) → IsNamed (codes "demo") (verb_in (codes "demo") rows)
unfolding verb_in
demo_in rows = demo_named (first_of (codes "seed") rows) (first_of (codes "scale") rows)

abbrev Each : (Text → Type 0) → List Text → Type 0
Each P [] = Unit {0}
Each P (name ∷ rest) = P name × Each P rest

by_name : (P : Text → Type 0) (names : List Text) (word : Text)
    → Each P names
    → list_any (λ name. bytes_eq name word) names ≡ true
    → P word
by_name P [] word each e = absurd (let bad : false ≡ true = e in cc)
by_name P (name ∷ rest) word each e = go (bytes_eq name word) refl e (by_name P rest word each.1)
  where
    go : (b : Bool)
        → bytes_eq name word ≡ b
        → (b || list_any (λ other. bytes_eq other word) rest) ≡ true
        → (list_any (λ other. bytes_eq other word) rest ≡ true → P word) → P word
    go true is e later = subst P ((bytes_eq-Decides name word).0 is) each.0
    go false is e later = later e

each_named : (rest : List Text) → Each (λ name. IsNamed name (verb_of (name ∷ rest))) verb_names
each_named rest = (
  named_verb (codes "make") rest enters_make make_in,
  (
    named_verb (codes "adopt") rest enters_adopt adopt_in,
    (
      named_verb (codes "serve") rest enters_serve serve_in,
      (
        named_verb (codes "install") rest enters_install install_in,
        (
          named_verb (codes "boot") rest enters_boot boot_in,
          (
            named_verb (codes "mark") rest enters_mark mark_in,
            (
              named_verb (codes "begin-merge") rest enters_begin_merge begin_merge_in,
              (
                named_verb (codes "merge") rest enters_merge merge_in,
                (
                  named_verb (codes "cancel") rest enters_cancel cancel_in,
                  (
                    named_verb (codes "activate") rest enters_activate activate_in,
                    (
                      named_verb (codes "print") rest enters_print print_in,
                      (
                        named_verb (codes "digest") rest enters_digest digest_in,
                        (
                          named_verb (codes "status") rest enters_status status_in,
                          (
                            named_verb (codes "demo") rest enters_demo demo_in,
                            tt,
                          ),
                        ),
                      ),
                    ),
                  ),
                ),
              ),
            ),
          ),
        ),
      ),
    ),
  ),
)

pub first : (word : Text) (rest : List Text)
    → IfSome (verb_of (word ∷ rest)) (λ m. word ≡ name_of m)
first word rest = go (is_verb_name word) refl
  where
    go : (b : Bool) → is_verb_name word ≡ b → IsNamed word (verb_of (word ∷ rest))
    go true is = by_name (λ name. IsNamed name (verb_of (name ∷ rest))) verb_names word
        (each_named rest) is
    go false is = rw (other word rest is) tt
