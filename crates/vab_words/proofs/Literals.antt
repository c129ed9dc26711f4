-- What words that are written out ask for.
use Rattle.std.proofs.Common.{◌≡◌, ◌∙◌, ap, true, false, [], ◌∷◌, Some, None, codes, option_map}
use Rattle.std.proofs.Common.{refl, arith}
use Rattle.std.specs.Prelude.{◌==◌}
use Rattle.std.proofs.lemmas.Bool.Decides.{nat_tests}
use Rattle.std.specs.Str.{bytes_eq}
use Rattle.clap.specs.Lexer.{long_of, short_of, strip_byte}
use Rattle.clap.specs.Words.{Text}
use Rattle.clap.proofs.OnLiterals.{clap_on_literals}
use Rattle.vab_words.specs.Command.{found_in, is_taken, vab_app}
use Rattle.vab_words.specs.Values.{blocks_of, is_number, limit_of, metadata_max_of}
use Rattle.vab_words.specs.Values.{number_up_to, slot_of, turns_of}
use Rattle.vab_words.specs.Verbs.{Activate, Adopt, BeginMerge, Boot, Cancel, Digest, Install}
use Rattle.vab_words.specs.Verbs.{Make, Mark}
use Rattle.vab_words.specs.Verbs.{Merge, Print, Serve, Status, demo_of, is_set, make_of, serve_of}
use Rattle.vab_words.specs.Verbs.{verb_in, verb_of}
use Rattle.vab_words.specs.Spelled.{AsksBy, IsPlain, MakesBy}

pub serve : verb_of (codes "serve" ∷ []) ≡ Some (Serve false 0)
unfolding clap_on_literals vab_app is_taken found_in verb_of verb_in serve_of is_set turns_of
serve = refl

pub serve_fresh : verb_of (codes "serve" ∷ codes "--fresh" ∷ []) ≡ Some (Serve true 0)
unfolding clap_on_literals vab_app is_taken found_in verb_of verb_in serve_of is_set turns_of
serve_fresh = refl

pub install : verb_of (codes "install" ∷ []) ≡ Some Install
unfolding clap_on_literals vab_app is_taken found_in verb_of verb_in
install = refl

pub boot : verb_of (codes "boot" ∷ []) ≡ Some Boot
unfolding clap_on_literals vab_app is_taken found_in verb_of verb_in
boot = refl

pub mark : verb_of (codes "mark" ∷ []) ≡ Some Mark
unfolding clap_on_literals vab_app is_taken found_in verb_of verb_in
mark = refl

pub begin_merge : verb_of (codes "begin-merge" ∷ []) ≡ Some BeginMerge
unfolding clap_on_literals vab_app is_taken found_in verb_of verb_in
begin_merge = refl

pub cancel : verb_of (codes "cancel" ∷ []) ≡ Some Cancel
unfolding clap_on_literals vab_app is_taken found_in verb_of verb_in
cancel = refl

pub status : verb_of (codes "status" ∷ []) ≡ Some Status
unfolding clap_on_literals vab_app is_taken found_in verb_of verb_in
status = refl

pub make : verb_of (codes "make" ∷ []) ≡ Some (Make 0 65536)
unfolding clap_on_literals vab_app is_taken found_in verb_of verb_in make_of limit_of
    metadata_max_of
make = refl

pub nothing : verb_of [] ≡ None
unfolding clap_on_literals vab_app is_taken found_in verb_of verb_in
nothing = refl

pub print_any : (text : Text) → verb_of (codes "print" ∷ codes "--" ∷ text ∷ []) ≡ Some (Print text)
unfolding clap_on_literals vab_app is_taken found_in verb_of verb_in
print_any text = refl

pub digest_any : (text : Text)
    → verb_of (codes "digest" ∷ codes "--" ∷ text ∷ []) ≡ Some (Digest text)
unfolding clap_on_literals vab_app is_taken found_in verb_of verb_in
digest_any text = refl

-- ---- a plain word is no option

no_dashes : (text : Text) → IsPlain text → bytes_eq text (45 ∷ 45 ∷ []) ≡ false
no_dashes [] plain = refl
no_dashes (x ∷ xs) plain =
    let no : (x == 45) ≡ false = grind (arith, nat_tests) in
    rw no refl

no_hyphen : (text : Text) → IsPlain text → strip_byte 45 text ≡ None
no_hyphen [] plain = refl
no_hyphen (x ∷ xs) plain =
    let no : (x == 45) ≡ false = grind (arith, nat_tests) in
    rw no refl

no_long : (text : Text) → IsPlain text → long_of text ≡ None
no_long text plain = rw (no_hyphen text plain) refl

no_short : (text : Text) → IsPlain text → short_of text ≡ None
no_short text plain = rw (no_hyphen text plain) refl

pub merge : AsksBy (codes "merge") (λ text. option_map Merge (blocks_of text))
unfolding clap_on_literals vab_app is_taken found_in verb_of verb_in
merge text plain = rw (no_dashes text plain, no_long text plain, no_short text plain) refl

five : blocks_of (codes "5") ≡ Some 5
unfolding blocks_of number_up_to is_number
five = refl

pub merge_five : verb_of (codes "merge" ∷ codes "5" ∷ []) ≡ Some (Merge 5)
merge_five = merge (codes "5") (grind (arith, nat_tests)) ∙ ap (option_map Merge) five

pub serve_turns : (text : Text)
    → IsPlain text
    → verb_of (codes "serve" ∷ codes "--turns" ∷ text ∷ [])
    ≡ option_map (Serve false) (turns_of (Some text))
unfolding clap_on_literals vab_app is_taken found_in verb_of verb_in serve_of is_set
serve_turns text plain =
    rw (no_dashes text plain, no_long text plain, no_short text plain) refl

pub serve_fresh_turns : (text : Text)
    → IsPlain text
    → verb_of (codes "serve" ∷ codes "--fresh" ∷ codes "--turns" ∷ text ∷ [])
    ≡ option_map (Serve true) (turns_of (Some text))
unfolding clap_on_literals vab_app is_taken found_in verb_of verb_in serve_of is_set
serve_fresh_turns text plain =
    rw (no_dashes text plain, no_long text plain, no_short text plain) refl

pub adopt : AsksBy (codes "adopt") (λ text. option_map Adopt (slot_of text))
unfolding clap_on_literals vab_app is_taken found_in verb_of verb_in
adopt text plain = rw (no_dashes text plain, no_long text plain, no_short text plain) refl

pub activate : AsksBy (codes "activate") (λ text. option_map Activate (slot_of text))
unfolding clap_on_literals vab_app is_taken found_in verb_of verb_in
activate text plain = rw (no_dashes text plain, no_long text plain, no_short text plain) refl

pub print : AsksBy (codes "print") (λ text. Some (Print text))
unfolding clap_on_literals vab_app is_taken found_in verb_of verb_in
print text plain = rw (no_dashes text plain, no_long text plain, no_short text plain) refl

pub digest : AsksBy (codes "digest") (λ text. Some (Digest text))
unfolding clap_on_literals vab_app is_taken found_in verb_of verb_in
digest text plain = rw (no_dashes text plain, no_long text plain, no_short text plain) refl

pub demo : AsksBy (codes "demo") (λ text. demo_of text None)
unfolding clap_on_literals vab_app is_taken found_in verb_of verb_in
demo text plain = rw (no_dashes text plain, no_long text plain, no_short text plain) refl

pub demo_scale : (seed scale : Text)
    → IsPlain seed
    → IsPlain scale
    → verb_of (codes "demo" ∷ seed ∷ codes "--scale" ∷ scale ∷ []) ≡ demo_of seed (Some scale)
unfolding clap_on_literals vab_app is_taken found_in verb_of verb_in
demo_scale seed scale a b =
    rw (
      no_dashes seed a,
      no_long seed a,
      no_short seed a,
      no_dashes scale b,
      no_long scale b,
      no_short scale b,
    ) refl

pub make_limit : MakesBy (codes "--limit") (λ text. make_of (Some text) None)
unfolding clap_on_literals vab_app is_taken found_in verb_of verb_in
make_limit text plain = rw (no_dashes text plain, no_long text plain, no_short text plain) refl

pub make_metadata_max : MakesBy (codes "--metadata-max") (λ text. make_of None (Some text))
unfolding clap_on_literals vab_app is_taken found_in verb_of verb_in
make_metadata_max text plain = rw (no_dashes text plain, no_long text plain, no_short text plain)
    refl

pub make_both : (limit metadata_max : Text) → IsPlain limit → IsPlain metadata_max
    → verb_of (codes "make" ∷ codes "--limit" ∷ limit ∷ codes "--metadata-max" ∷ metadata_max ∷ [])
    ≡ make_of (Some limit) (Some metadata_max)
unfolding clap_on_literals vab_app is_taken found_in verb_of verb_in
make_both limit metadata_max a b =
    rw (
      no_dashes limit a,
      no_long limit a,
      no_short limit a,
      no_dashes metadata_max b,
      no_long
          metadata_max b,
      no_short metadata_max b,
    ) refl
