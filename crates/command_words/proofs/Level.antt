-- What one level of the parse makes of words without hyphens.
use Rattle.std.proofs.Common.{◌≡◌, ◌∙◌, ℕ, cond, false, refl, ap, ap₂, List, [], ◌∷◌, Some, None, codes}
use Rattle.std.specs.Str.{bytes_eq}
use Rattle.std.specs.Option.{option_map_or}
use Rattle.clap.specs.Lexer.{long_of, short_of}
use Rattle.clap.specs.Walk.{Held, Names, Rule, Text, Walk, after_step, arg_by_index, first_of, idle, long_or_other, nothing_held, settled, finished, short_or_plain, subcommand_met, subcommand_or_other, to_positional, trailing, value as as_value, walk, walk_from, walked, word_met}
use Rattle.clap.specs.Simple.{Shape, built_leaf, inherited, marked_built, rows_at, with_leaf_noted}
use Rattle.clap.specs.Kinds.{Kinds, or_else}
use Rattle.clap.specs.Faults.{bundle_fault, check_fault, defaults_fault, flag_word_fault, level_fault, other_fault, settle_fault, step_fault, turn_fault, walk_fault, word_fault}
use Rattle.clap.specs.declared.error.kind.ErrorKind.TheVariants as kind
use Rattle.clap.proofs.OnLiterals.{clap_on_literals}
use Rattle.command_words.specs.Command.{alone_shape, office_app, valued_shape}
use Rattle.command_words.specs.Words.{begins_with_hyphen}

-- the word is neither `--` nor a flag
pub record IsPlain (word : Text) : Type 0 where
  pub dashes : bytes_eq word (45 ∷ 45 ∷ []) ≡ false
  pub long : long_of word ≡ None
  pub short : short_of word ≡ None

pub plain_word : (word : Text) → begins_with_hyphen word ≡ false → IsPlain word
plain_word [] e = record { dashes = refl; long = refl; short = refl }
plain_word (byte ∷ bytes) e = record { dashes = rw e refl; long = rw e refl; short = rw e refl }

-- ---- a plain word that names no subcommand goes to a positional

abbrev walk_at : Held → ℕ → Walk
walk_at h position = record { held = h; waiting = idle; position = position; is_trailing = false; stopped = None }

pub met_plain : (c : List Rule) (names : Names) (h : Held) (position : ℕ) (word : Text) → subcommand_met names idle word ≡ None → IsPlain word
    → word_met c names false idle position word h ≡ (h, as_value)
met_plain c names h position word none plain =
    ap (λ o. subcommand_or_other c o idle position word h) none
    ∙ ap (λ b. cond b (h, trailing position) (long_or_other c idle word (long_of word) h)) plain.dashes
    ∙ ap (λ o. long_or_other c idle word o h) plain.long
    ∙ ap (λ o. short_or_plain c idle word o h) plain.short

word_fault_plain : (s : Shape) (names : Names) (h : Held) (word : Text) → subcommand_met names idle word ≡ None → IsPlain word
    → word_fault s names false idle word h ≡ []
word_fault_plain s names h word none plain =
    ap (λ o. other_fault s o word h) none
    ∙ ap (λ b. cond b [] (flag_word_fault s.rules s.args_override_self (long_of word) word h)) plain.dashes
    ∙ ap (λ o. flag_word_fault s.rules s.args_override_self o word h) plain.long
    ∙ ap (λ o. option_map_or (λ flags. bundle_fault s.rules s.args_override_self flags h) o []) plain.short

pub turn_plain : (s : Shape) (names : Names) (h : Held) (position : ℕ) (word : Text) → subcommand_met names idle word ≡ None → IsPlain word
    → turn_fault s names (walk_at h position) word ≡ step_fault s position h as_value
turn_plain s names h position word none plain = λ i.
    or_else (word_fault_plain s names h word none plain i)
    (step_fault s position (met_plain s.rules names h position word none plain i).0 (met_plain s.rules names h position word none plain i).1)

pub walked_plain : (c : List Rule) (names : Names) (h : Held) (position : ℕ) (word : Text) → subcommand_met names idle word ≡ None → IsPlain word
    → walked c names (walk_at h position) word ≡ to_positional c (arg_by_index c position) word (walk_at h position) h
unfolding walked
walked_plain c names h position word none plain =
    ap (λ met. after_step c word (walk_at h position) met.0 met.1) (met_plain c names h position word none plain)

-- ---- the subcommands, as the office builds them

abbrev pub entered_shape : Shape → Shape
entered_shape s = built_leaf (inherited (with_leaf_noted (marked_built office_app.top)) s)

abbrev pub alone : Text → Shape
alone name = entered_shape (alone_shape name)

abbrev pub valued : Text → Shape
valued name = entered_shape (valued_shape name)

-- what a level finds wrong, by its walk's faults and its end
abbrev ends_by : Shape → Kinds → Walk → Kinds
ends_by s faults end =
    or_else faults (or_else (settle_fault s.rules s.args_override_self end.held)
    (or_else (defaults_fault (settled s.rules end.held).rows s.rules) (check_fault s (finished s.rules end.held) false)))

-- a first fault in the walk is the level's
first_fault : (s : Shape) (word : Text) (rest : List Text) (k : Kinds) → turn_fault s [] (walk_from nothing_held) word ≡ k
    → level_fault s [] nothing_held (word ∷ rest) false []
    ≡ ends_by s (or_else k (walk_fault s [] (walked s.rules [] (walk_from nothing_held) word) rest)) (walk s.rules [] nothing_held (word ∷ rest))
unfolding walk_fault
first_fault s word rest k e =
    ap (λ turn. ends_by s (or_else turn (walk_fault s [] (walked s.rules [] (walk_from nothing_held) word) rest)) (walk s.rules [] nothing_held (word ∷ rest))) e

pub alone_none : (name : Text) → level_fault (alone name) [] nothing_held [] false [] ≡ []
unfolding clap_on_literals
alone_none name = refl

pub alone_more : (name word : Text) (rest : List Text) → IsPlain word → level_fault (alone name) [] nothing_held (word ∷ rest) false [] ≡ kind.UnknownArgument ∷ []
alone_more name word rest plain =
    first_fault (alone name) word rest (kind.UnknownArgument ∷ []) (turn_plain (alone name) [] nothing_held 1 word refl plain)

pub valued_none : (name : Text) → level_fault (valued name) [] nothing_held [] false [] ≡ kind.MissingRequiredArgument ∷ []
unfolding clap_on_literals
valued_none name = refl

-- the walk with the value held
abbrev holding : Text → Walk
holding word = record {
  held = record { rows = []; pending = Some (codes "value", word ∷ []); skip = 0 };
  waiting = idle;
  position = 2;
  is_trailing = false;
  stopped = None;
}

holds : (name word : Text) → IsPlain word → walked (valued name).rules [] (walk_from nothing_held) word ≡ holding word
holds name word plain = walked_plain (valued name).rules [] nothing_held 1 word refl plain

turns : (name word : Text) → IsPlain word → turn_fault (valued name) [] (walk_from nothing_held) word ≡ []
turns name word plain = turn_plain (valued name) [] nothing_held 1 word refl plain

done : (name word : Text) → ends_by (valued name) [] (holding word) ≡ []
unfolding clap_on_literals
done name word = refl

walk_fault_nil : (s : Shape) (w : Walk) → walk_fault s [] w [] ≡ []
unfolding walk_fault
walk_fault_nil s w = refl

pub valued_one : (name word : Text) → IsPlain word → level_fault (valued name) [] nothing_held (word ∷ []) false [] ≡ []
valued_one name word plain =
    first_fault (valued name) word [] [] (turns name word plain)
    ∙ ap₂ (λ faults end. ends_by (valued name) faults end) (walk_fault_nil (valued name) _) (holds name word plain)
    ∙ done name word

-- the value is read again
reads_held : (name word : Text) → first_of (codes "value") (finished (valued name).rules (holding word).held) ≡ Some word
unfolding clap_on_literals
reads_held name word = refl

pub valued_reads : (name word : Text) → IsPlain word → first_of (codes "value") (rows_at (valued name) (word ∷ [])).1 ≡ Some word
valued_reads name word plain =
    ap (λ (w : Walk). first_of (codes "value") (finished (valued name).rules w.held)) (holds name word plain) ∙ reads_held name word

pub alone_reads : (name : Text) → first_of (codes "value") (rows_at (alone name) []).1 ≡ None
unfolding clap_on_literals
alone_reads name = refl

-- a second word is one too many
second : (name word other : Text) → IsPlain other → turn_fault (valued name) [] (holding word) other ≡ kind.UnknownArgument ∷ []
second name word other plain = turn_plain (valued name) [] (holding word).held 2 other refl plain

walk_fault_cons : (s : Shape) (w : Walk) (word : Text) (rest : List Text) → walk_fault s [] w (word ∷ rest) ≡ or_else (turn_fault s [] w word) (walk_fault s [] (walked s.rules [] w word) rest)
unfolding walk_fault
walk_fault_cons s w word rest = refl

pub valued_more : (name word other : Text) (rest : List Text) → IsPlain word → IsPlain other
    → level_fault (valued name) [] nothing_held (word ∷ other ∷ rest) false [] ≡ kind.UnknownArgument ∷ []
valued_more name word other rest plain plain_other =
    let s = valued name in
    let end = walk s.rules [] nothing_held (word ∷ other ∷ rest) in
    first_fault s word (other ∷ rest) [] (turns name word plain)
    ∙ ap (λ w. ends_by s (walk_fault s [] w (other ∷ rest)) end) (holds name word plain)
    ∙ ap (λ faults. ends_by s faults end) (walk_fault_cons s (holding word) other rest)
    ∙ ap (λ turn. ends_by s (or_else turn (walk_fault s [] (walked s.rules [] (holding word) other) rest)) end) (second name word other plain_other)
