-- What the headers of a head say of its body and of the connection.
use Rattle.std.specs.Prelude.{ℕ, ◌&&◌, ◌||◌, ◌==◌, nat_lt, Bool, if◌then◌else◌, List, [], ◌∷◌, length, map, Result, Ok, Err, codes, bytes_eq}
use Rattle.std.specs.{List.list_any, List.list_all, Char.is_ascii_digit, Str.str_to_ascii_lowercase, Str.Parse.digits_value}
use Rattle.httparse.specs.{Grammar.RequestHead, Spans.name_and_value}
use Rattle.http_heads.specs.declared.fault.Fault.{Fault}

-- a name, and a value without the spaces and tabs around it
abbrev pub Header : Type 0
Header = List ℕ × List ℕ

abbrev pub headers_of : RequestHead → List Header
headers_of head = map name_and_value head.fields

-- the text is that word, in any case of letters
abbrev pub is_in_any_case : List ℕ → List ℕ → Bool
is_in_any_case word text = bytes_eq (str_to_ascii_lowercase text) (str_to_ascii_lowercase word)

abbrev pub has_header : List ℕ → List Header → Bool
has_header name headers = list_any (λ (header : Header). is_in_any_case name header.0) headers

-- ---- the body

-- the values of the Content-Length headers
abbrev pub values_of : List Header → List (List ℕ)
values_of [] = []
values_of (header ∷ headers) =
    if is_in_any_case (codes "content-length") header.0 then header.1 ∷ values_of headers else values_of headers

-- one digit or more, and nothing else
abbrev pub is_number : List ℕ → Bool
is_number text = nat_lt 0 (length text) && list_all is_ascii_digit text

-- the length that a value says, of at most 16,384
unfoldable pub length_from : List ℕ → Result ℕ Fault
length_from value =
    if is_number value
    then (if nat_lt 16384 (digits_value 10 value) then Err Fault.BodyTooLong else Ok (digits_value 10 value))
    else Err Fault.BadLength

-- no value says 0, and more than one say nothing good
abbrev pub length_of : List (List ℕ) → Result ℕ Fault
length_of [] = Ok 0
length_of (value ∷ []) = length_from value
length_of (value ∷ second ∷ values) = Err Fault.BadLength

-- how many bytes of body follow, or the first cause of a refusal
unfoldable pub judged : List Header → Result ℕ Fault
judged headers =
    if nat_lt 64 (length headers) then Err Fault.HeadTooLong
    else (if has_header (codes "transfer-encoding") headers then Err Fault.Coding
    else length_of (values_of headers))

-- ---- the connection

-- a Connection header has the value close
abbrev pub is_closing : List Header → Bool
is_closing headers =
    list_any (λ (header : Header). is_in_any_case (codes "connection") header.0 && is_in_any_case (codes "close") header.1) headers

-- the head is of HTTP/1.0, or has such a header
abbrev pub asks_close : RequestHead → Bool
asks_close head = head.minor == 0 || is_closing (headers_of head)
