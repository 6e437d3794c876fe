-- What the words of the command line ask.
use Rattle.std.specs.Prelude.{ℕ, ◌≤◌, ⊤, ◌==◌, if◌then◌else◌, Bool, false, Option, Some, None, option_map, List, [], ◌∷◌, codes, bytes_eq}
use Rattle.std.specs.List.{list_any}
use Rattle.days_core.specs.DayText.{◌>>=◌, day_from, month_from}
use Rattle.numerals.specs.Numerals.{plain_number_between}
use Rattle.command_words.specs.declared.{subcommand.Subcommand.Subcommand, serving.Serve.Serve}

-- ---- one command

-- the words that stand alone
abbrev pub subcommand_alone : List ℕ → Option Subcommand
subcommand_alone name =
    if bytes_eq name (codes "assess") then Some Subcommand.Assess
    else (if bytes_eq name (codes "batch") then Some Subcommand.Batch
    else (if bytes_eq name (codes "export") then Some Subcommand.Export else None))

-- a number from 1, without a zero in front
abbrev pub number_up_to : ℕ → List ℕ → Option ℕ
number_up_to most value = plain_number_between 1 most value

-- the words that have a value after them
abbrev pub subcommand_with : List ℕ → List ℕ → Option Subcommand
subcommand_with name value =
    if bytes_eq name (codes "voucher") then option_map Subcommand.Voucher (month_from value)
    else (if bytes_eq name (codes "import") then option_map Subcommand.Import (number_up_to 9999 value)
    else (if bytes_eq name (codes "due") then option_map Subcommand.Due (day_from value)
    else (if bytes_eq name (codes "targets") then option_map Subcommand.Targets (day_from value)
    else (if bytes_eq name (codes "make") then option_map Subcommand.Make (number_up_to 300 value)
    else (if bytes_eq name (codes "trial") then option_map Subcommand.Trial (number_up_to 300 value) else None)))))

abbrev pub subcommand_of_words : List (List ℕ) → Option Subcommand
subcommand_of_words [] = None
subcommand_of_words (name ∷ []) = subcommand_alone name
subcommand_of_words (name ∷ value ∷ []) = subcommand_with name value
subcommand_of_words (name ∷ value ∷ other ∷ others) = None

abbrev pub begins_with_hyphen : List ℕ → Bool
begins_with_hyphen [] = false
begins_with_hyphen (byte ∷ bytes) = byte == 45

-- no word may begin with a hyphen
abbrev pub subcommand_in : List (List ℕ) → Option Subcommand
subcommand_in words = if list_any begins_with_hyphen words then None else subcommand_of_words words

-- where a clerk is asked for, the number is a clerk's
abbrev pub HasClerk : Option Subcommand → Type 0
HasClerk (Some (Subcommand.Import clerk)) = (1 ≤ clerk) × (clerk ≤ 9999)
HasClerk _ = ⊤

-- ---- serving

abbrev pub serving : List ℕ → List ℕ → List ℕ → List ℕ → Option Serve
serving name port workers connections =
    if bytes_eq name (codes "serve") then (do
      port ← number_up_to 65535 port
      workers ← number_up_to 32 workers
      connections ← number_up_to 1000000 connections
      Some (record { port = port; workers = workers; connections = connections }))
    else None

-- `serve PORT WORKERS CONNECTIONS`
abbrev pub serve_in : List (List ℕ) → Option Serve
serve_in (name ∷ port ∷ workers ∷ connections ∷ []) = serving name port workers connections
serve_in _ = None

-- ---- the book

-- the path after a first `--book`
abbrev pub book_in : List (List ℕ) → Option (List ℕ)
book_in (flag ∷ path ∷ others) = if bytes_eq flag (codes "--book") then Some path else None
book_in _ = None

-- the words without these two
abbrev pub words_after_book : List (List ℕ) → List (List ℕ)
words_after_book (flag ∷ path ∷ others) = if bytes_eq flag (codes "--book") then others else flag ∷ path ∷ others
words_after_book words = words
