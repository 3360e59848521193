mod ShownLaws
mod RunLaws
mod SearchLaws
mod LineLaws
mod ReadLaws
mod CutLaws
