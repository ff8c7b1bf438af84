-- What is said of a bad line.
use Rattle.std.specs.Prelude.{ℕ, List, [], ◌++◌, codes, decimal}
use Rattle.text.specs.declared.problem.Argument.{Argument}
use Rattle.text.specs.declared.problem.Argument.TheVariants.{X, Y, First, Width, Height, Stride, Format, Pixels, Client, Id, Offset, Places, Time}
use Rattle.text.specs.declared.problem.BadLine.{BadLine}
use Rattle.text.specs.declared.problem.Problem.{Problem}
use Rattle.text.specs.declared.problem.Problem.TheVariants.{NoConsole, SceneStart, RecordingStart, SecondConsole, UnknownLine, Missing, NotUnsigned, NotSigned, PixelForm, PixelsPastEnd, MessageForm, SwitchForm, WordTooMany, NoMemory}

abbrev pub argument_name : Argument → List ℕ
argument_name X = codes "X"
argument_name Y = codes "Y"
argument_name First = codes "FIRST"
argument_name Width = codes "WIDTH"
argument_name Height = codes "HEIGHT"
argument_name Stride = codes "STRIDE"
argument_name Format = codes "FORMAT"
argument_name Pixels = codes "PIXELS"
argument_name Client = codes "CLIENT"
argument_name Id = codes "ID"
argument_name Offset = codes "OFFSET"
argument_name Places = codes "N"
argument_name Time = codes "TIME"

-- the argument that a message begins with, if there is one
abbrev pub problem_subject : Problem → List ℕ
problem_subject NoConsole = []
problem_subject SceneStart = []
problem_subject RecordingStart = []
problem_subject SecondConsole = []
problem_subject UnknownLine = []
problem_subject (Missing name) = argument_name name
problem_subject (NotUnsigned name) = argument_name name
problem_subject (NotSigned name) = argument_name name
problem_subject PixelForm = []
problem_subject PixelsPastEnd = []
problem_subject MessageForm = []
problem_subject SwitchForm = []
problem_subject WordTooMany = []
problem_subject NoMemory = []

-- the message after its subject
abbrev pub problem_text : Problem → List ℕ
problem_text NoConsole = codes "the file has no console line"
problem_text SceneStart = codes "the first line must be: console WIDTH HEIGHT composer PIXELS"
problem_text RecordingStart = codes "the first line must be: console WIDTH HEIGHT composer|scanout PIXELS"
problem_text SecondConsole = codes "a second console line"
problem_text UnknownLine = codes "unknown word at the start of the line"
problem_text (Missing name) = codes " is missing"
problem_text (NotUnsigned name) = codes " is not a number from 0 to 4294967295"
problem_text (NotSigned name) = codes " is not a number from -2147483648 to 2147483647"
problem_text PixelForm = codes "a pixel is eight hex digits, or N*PIXEL"
problem_text PixelsPastEnd = codes "the pixels do not fit the pixel memory"
problem_text MessageForm = codes "a message is hex digits, an even number to a word"
problem_text SwitchForm = codes "switch is on or off"
problem_text WordTooMany = codes "a word too many"
problem_text NoMemory = codes "out of memory"

abbrev pub bad_line_text : BadLine → List ℕ
bad_line_text bad =
    codes "line " ++ (decimal bad.line ++ (codes ": " ++ (problem_subject bad.problem ++ problem_text bad.problem)))
