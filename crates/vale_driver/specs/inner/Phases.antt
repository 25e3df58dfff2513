-- What the phases over the source files leave to each other.
use Rattle.std.specs.Prelude.{◌≡◌, ◌≤◌, ℕ, length, List, [], ◌∷◌, ◌++◌, map, Option, String}
use Rattle.std.specs.List.{AllByRecursion}
use Rattle.std.specs.declared.alloc.Global.{Global}
use Rattle.vale_syntax.specs.Tokens.{LexResult, All, tokens_from}
use Rattle.vale_syntax.specs.Programs.{De}
use Rattle.vale_syntax.specs.Declarations.{AreDecls}
use Rattle.vale_driver.specs.declared.words.BuildWords.{BuildWords as SomeBuildWords}
use Rattle.vale_driver.specs.declared.sources.Source.{Source as AFile}
use Rattle.vale_driver.specs.declared.sources.Scanned.{Scanned}
use Rattle.vale_parser.specs.Sources.{StopsAt}
use Rattle.vale_syntax.specs.declared.spot.Spot.{Spot}
use Rattle.std.specs.Prelude.{option_map}
use Rattle.std.specs.Borrow.{Bor}
use Rattle.vale_driver.specs.declared.status.Refusal.{Refusal}
use Rattle.vale_lexer.specs.declared.scan.LexFault.{LexFault}
use Rattle.vale_lexer.specs.declared.scan.LexFault.TheVariants.{BadByte, NumberTooLarge, OpenComment, NoMemory}
use Rattle.vale_syntax.specs.declared.token.NotAToken.TheVariants as not_a_token
use Rattle.vale_driver.specs.declared.cause.Cause.{Cause as SomeCause}
use Rattle.vale_driver.specs.declared.cause.Cause.TheVariants as some_cause
use Rattle.vale_driver.specs.declared.stop.Stop.{Stop}
use Rattle.vale_driver.specs.declared.stop.Stop.TheVariants.{Refused}
use Rattle.vale_driver.specs.declared.stop.Stop.TheVariants as stop
use Rattle.vale_driver.specs.Sources.{Source, sources_from, IsShort}
use Rattle.vale_driver.specs.Told.{EachAsTold}
use Rattle.vale_driver.specs.Causes.{Cause, refusal_of}
use Rattle.vale_driver.specs.Words.{texts, BuildWords, EvalWords, Command, Build, Read, Eval, Options}
use Rattle.vale_driver.specs.Causes as cause
use Rattle.vale_driver.specs.declared.words.EvalWords.{EvalWords as SomeEvalWords}
use Rattle.vale_driver.specs.declared.words.Options.{Options as SomeOptions}
use Rattle.vale_driver.specs.declared.words.Command.{Command as ACommand}
use Rattle.vale_driver.specs.declared.words.Command.TheVariants.{Build as ABuild, Read as ARead, Eval as AnEval}

-- source files as they are kept
abbrev pub source_view : AFile → Source
source_view s = record { number = s.number; name = s.name.now; bytes = s.bytes.items }

abbrev pub source_views : List AFile → List Source
source_views ss = map source_view ss

-- The files were fetched: they hold what is told of them, and are short.
pub record Opened (tells : List ℕ → Option (List ℕ)) (files : List (List ℕ)) (ss : List Source) : Type 0 where
  pub contents : List (List ℕ)
  pub holds : EachAsTold tells files contents
  pub are : ss ≡ sources_from 0 files contents
  pub short : AllByRecursion IsShort ss

-- a file's name and its tokens, as they are and as they are kept
abbrev pub scan : Source → List ℕ × LexResult
scan s = (s.name, tokens_from s.number 0 0 s.bytes)

abbrev pub scan_view : Scanned → List ℕ × LexResult
scan_view s = (s.name.now, All s.tokens.items)

-- the declarations of lists of tokens, one behind the other
abbrev pub Parsed : List Scanned → List De → Type 0
Parsed [] decls = decls ≡ []
Parsed (s ∷ ss) decls = (xs : List De) × (ys : List De) × AreDecls s.tokens.items xs × Parsed ss ys × (decls ≡ xs ++ ys)

abbrev pub Parses : Scanned → Type 0
Parses s = (decls : List De) × AreDecls s.tokens.items decls

pub record Unparsed (s : Scanned) (r : Refusal) : Type 0 where
  pub first : Spot
  pub stops : StopsAt s.tokens.items first
  pub is : r ≡ refusal_of (cause.NoDeclaration s.name.now first.at)

-- causes as they are kept
abbrev pub cause_view : SomeCause → Cause
cause_view (some_cause.TooLong file) = cause.TooLong file.now
cause_view (some_cause.NoToken file at why) = cause.NoToken file.now at why
cause_view (some_cause.NoDeclaration file at) = cause.NoDeclaration file.now at
cause_view (some_cause.NoForm file) = cause.NoForm (option_map (λ f. f.now) file)
cause_view (some_cause.NoCertificate file) = cause.NoCertificate file.now
cause_view (some_cause.NoStep file name) = cause.NoStep file.now name.now
cause_view (some_cause.NoLine file line) = cause.NoLine file.now line
cause_view (some_cause.NoLabel file line) = cause.NoLabel file.now line
cause_view (some_cause.NoSetting file line) = cause.NoSetting file.now line
cause_view (some_cause.NoEntry file entry) = cause.NoEntry file.now entry.now

-- the answer to a fault of the scan
abbrev pub lex_stop : List ℕ → LexFault → Stop
lex_stop file (BadByte at) = Refused (refusal_of (cause.NoToken file at not_a_token.BadByte))
lex_stop file (NumberTooLarge at) = Refused (refusal_of (cause.NoToken file at not_a_token.NumberTooLarge))
lex_stop file (OpenComment at) = Refused (refusal_of (cause.NoToken file at not_a_token.OpenComment))
lex_stop file NoMemory = stop.NoMemory

abbrev pub build_of : SomeBuildWords → BuildWords
build_of b = record { cert = b.cert.now; files = texts b.files.now }

abbrev pub eval_of : SomeEvalWords → EvalWords
eval_of e = record { text = e.text.now; entry = e.entry.now; state = e.state.now; steps = e.steps }

abbrev pub command_of : ACommand → Command
command_of (ABuild b) = Build (build_of b)
command_of (ARead text) = Read text.now
command_of (AnEval e) = Eval (eval_of e)

-- the values of options as they are kept
abbrev pub options_of : SomeOptions → Options
options_of o = record {
  syntax = option_map (λ v. v.now) o.syntax;
  cert = option_map (λ v. v.now) o.cert;
  entry = option_map (λ v. v.now) o.entry;
  state = option_map (λ v. v.now) o.state;
  steps = option_map (λ v. v.now) o.steps;
}

abbrev pub words_left : SomeOptions × Bor (List (String Global)) → Options × List (List ℕ)
words_left p = (options_of p.0, texts p.1.now)

-- a build has at most 16 source files
abbrev pub FewFiles : ACommand → Type 0
FewFiles (ABuild b) = length b.files.now ≤ 16
FewFiles (ARead text) = Unit {0}
FewFiles (AnEval e) = Unit {0}
