mod FrameLaws
mod HexLaws
mod LineLaws
mod ResultLaws
